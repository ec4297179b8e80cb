-- The kinds of path: the text of each, and the methods that it takes.
use Rattle.std.specs.Prelude.{ℕ, List, [], ◌∷◌, map, codes}
use Rattle.adr_routes.specs.declared.methods.Methods.{Methods}
use Rattle.adr_routes.specs.declared.place.Root.TheVariants.{Programs, Events, Reports, Subs, Notifications, Outbox, Vens}
use Rattle.adr_routes.specs.declared.place.One.TheVariants.{Program, Event, Report, Rollup, Sub, Ven, Resources, Shares, Frozen}
use Rattle.adr_routes.specs.declared.place.Two.TheVariants.{Resource, Share}
use Rattle.adr_routes.specs.declared.place.Place.{Place}
use Rattle.adr_routes.specs.declared.place.Place.TheVariants.{Root, One, Two}
use Rattle.adr_routes.specs.Methods.{get_only, get_post, get_put, get_put_delete, put_delete, post_only}

-- what stands in braces is any part that is not empty
abbrev pub served : Place → List ℕ × Methods
served (Root Programs) = (codes "/programs", get_only)
served (One Program) = (codes "/programs/{id}", get_only)
served (Root Events) = (codes "/events", get_only)
served (One Event) = (codes "/events/{id}", get_only)
served (Root Reports) = (codes "/reports", get_post)
served (One Report) = (codes "/reports/{id}", get_put_delete)
served (One Rollup) = (codes "/rollups/{eventID}", get_only)
served (Root Subs) = (codes "/subscriptions", get_post)
served (One Sub) = (codes "/subscriptions/{id}", get_put_delete)
served (Root Notifications) = (codes "/notifications", post_only)
served (Root Outbox) = (codes "/outbox", get_only)
served (Root Vens) = (codes "/vens", get_post)
served (One Ven) = (codes "/vens/{venID}", get_put_delete)
served (One Resources) = (codes "/vens/{venID}/resources", get_post)
served (Two Resource) = (codes "/vens/{venID}/resources/{resourceID}", get_put_delete)
served (One Shares) = (codes "/shares/{programID}", get_only)
served (Two Share) = (codes "/shares/{programID}/{resourceID}", put_delete)
served (One Frozen) = (codes "/frozen/{eventID}", get_put)

-- the text of a kind of path, in which braces stand for an id
abbrev pub text_of : Place → List ℕ
text_of place = (served place).0

-- the methods that paths of a kind take
abbrev pub methods_of : Place → Methods
methods_of place = (served place).1

abbrev pub all_places : List Place
all_places = Root Programs ∷ One Program ∷ Root Events ∷ One Event ∷ Root Reports ∷ One Report ∷ One Rollup ∷ Root Subs ∷ One Sub ∷ Root Notifications ∷ Root Outbox ∷ Root Vens ∷ One Ven ∷ One Resources ∷ Two Resource ∷ One Shares ∷ Two Share ∷ One Frozen ∷ []

-- a place beside its text
abbrev pub entry_of : Place → List ℕ × Place
entry_of place = (text_of place, place)

-- some places, each beside its text
abbrev pub entries_of : List Place → List (List ℕ × Place)
entries_of places = map entry_of places

-- each place beside its text
abbrev pub table : List (List ℕ × Place)
table = entries_of all_places
