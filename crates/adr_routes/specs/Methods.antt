-- The methods that a path takes.
use Rattle.std.specs.Prelude.{ℕ, Bool, true, false, List, codes, bytes_eq, if◌then◌else◌}
use Rattle.adr_routes.specs.declared.methods.Methods.{Methods}

-- the word is one of the four, GET, POST, PUT or DELETE, and it is taken
abbrev pub has : Methods → List ℕ → Bool
has methods method =
    if bytes_eq method (codes "GET") then methods.get
    else (if bytes_eq method (codes "POST") then methods.post
    else (if bytes_eq method (codes "PUT") then methods.put
    else (if bytes_eq method (codes "DELETE") then methods.delete
    else false)))

-- the methods that are taken together somewhere
abbrev pub get_only : Methods
get_only = record { get = true; post = false; put = false; delete = false }

abbrev pub get_post : Methods
get_post = record { get = true; post = true; put = false; delete = false }

abbrev pub get_put_delete : Methods
get_put_delete = record { get = true; post = false; put = true; delete = true }

abbrev pub get_put : Methods
get_put = record { get = true; post = false; put = true; delete = false }

abbrev pub put_delete : Methods
put_delete = record { get = false; post = false; put = true; delete = true }

abbrev pub post_only : Methods
post_only = record { get = false; post = true; put = false; delete = false }
