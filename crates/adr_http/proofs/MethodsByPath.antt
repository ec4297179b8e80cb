-- A method is asked by exactly where its path has it.
use Rattle.std.proofs.Common.{◌≡◌, ℕ, List, Bool, true, false, cond, codes, bytes_eq, Option, Some, None, Result, Ok, Err, refl}
use Rattle.std.specs.Prelude.{◌≢◌}
use Rattle.adr_text.specs.Refusals.{◌>>=◌}
use Rattle.adr_text.specs.declared.refusal.Refusal.{Refusal}
use Rattle.adr_schema.specs.Sites.{ven_of, resource_of, share_of, anything_of}
use Rattle.adr_schema.specs.Reports.{report_of}
use Rattle.adr_schema.specs.Notices.{notice_of}
use Rattle.adr_schema.specs.declared.notice.NoticeIn.{NoticeIn}
use Rattle.adr_subscription.specs.Subscriptions.{sub_of}
use Rattle.adr_queries.specs.declared.role.Role.{Role}
use Rattle.adr_queries.specs.declared.role.Role.TheVariants.{Operator, Ven, Utility}
use Rattle.adr_routes.specs.declared.path.Path.{Path}
use Rattle.adr_routes.specs.declared.path.Path.TheVariants.{At, Of, Under}
use Rattle.adr_routes.specs.declared.place.Root.TheVariants as root
use Rattle.adr_routes.specs.declared.place.One.TheVariants as one
use Rattle.adr_routes.specs.declared.place.Two.TheVariants as two
use Rattle.adr_routes.specs.Places.{methods_of}
use Rattle.adr_routes.specs.Paths.{place_of}
use Rattle.adr_asked.specs.declared.asked.Asked.{Asked}
use Rattle.adr_asked.specs.Filters.{filter_asked, report_filter_asked}
use Rattle.adr_asked.specs.Queries.{page_asked}
use Rattle.adr_asked.specs.Requests.{asked_by_get, root_asked, asked_by_post, notice_asked, asked_by_put, asked_by_delete, asked_by}
use Rattle.adr_http.specs.Laws.{MethodsAreServed}

-- what was read is asked, or refused: it is never nothing
some : {A B E : Type 0} (read : Result A E) (f : A → B) → (read >>= λ x. Ok (Some (f x))) ≢ Ok None
some (Ok x) f e = absurd cc
some (Err r) f e = absurd cc

some_two : {A B C E : Type 0} (first : Result A E) (second : Result B E) (f : A → B → C) → (first >>= λ x. second >>= λ y. Ok (Some (f x y))) ≢ Ok None
some_two (Ok x) second f e = some second (f x) e
some_two (Err r) second f e = absurd cc

notified_some : (role : Role) (read : Result NoticeIn Refusal) → (read >>= notice_asked role) ≢ Ok None
notified_some Utility (Ok n) e = absurd cc
notified_some Operator (Ok n) e = absurd cc
notified_some (Ven id) (Ok n) e = absurd cc
notified_some role (Err r) e = absurd cc

-- what the table of places says of a method is what is asked by it
abbrev Answers : Bool → Result (Option Asked) Refusal → Type 0
Answers true asked = asked ≢ Ok None
Answers false asked = asked ≡ Ok None

get_answers : (role : Role) (p : Path) (query : List ℕ) → Answers (methods_of (place_of p)).get (asked_by_get role p query)
unfolding asked_by_get root_asked
get_answers role (At root.Programs) query = some (page_asked query) _
get_answers role (At root.Events) query = some_two (filter_asked query) (page_asked query) _
get_answers role (At root.Reports) query = some_two (report_filter_asked query) (page_asked query) _
get_answers role (At root.Subs) query = some_two (report_filter_asked query) (page_asked query) _
get_answers role (At root.Vens) query = some (page_asked query) _
get_answers role (Of one.Resources ven) query = some (page_asked query) _
get_answers role (At root.Notifications) query = refl
get_answers role (Under two.Share program resource) query = refl
get_answers role _ query = λ e. cc

post_answers : (role : Role) (p : Path) (body : List ℕ) → Answers (methods_of (place_of p)).post (asked_by_post role p body)
unfolding asked_by_post
post_answers role (At root.Vens) body = some (ven_of body) _
post_answers role (At root.Notifications) body = notified_some role (notice_of body)
post_answers role (At root.Reports) body = some (report_of body) _
post_answers role (At root.Subs) body = some (sub_of body) _
post_answers role (Of one.Resources ven) body = some (resource_of body) _
post_answers role (Under two.Share program resource) body = refl
post_answers role _ body = refl

put_answers : (role : Role) (p : Path) (body : List ℕ) → Answers (methods_of (place_of p)).put (asked_by_put role p body)
unfolding asked_by_put
put_answers role (At root.Programs) body = refl
put_answers role (Of one.Ven id) body = some (ven_of body) _
put_answers role (Under two.Resource ven id) body = some (resource_of body) _
put_answers role (Of one.Report id) body = some (report_of body) _
put_answers role (Of one.Sub id) body = some (sub_of body) _
put_answers role (Under two.Share program resource) body = some (share_of body) _
put_answers role (Of one.Frozen event) body = some (anything_of body) _
put_answers role _ body = refl

delete_answers : (role : Role) (p : Path) → Answers (methods_of (place_of p)).delete (Ok (asked_by_delete role p))
unfolding asked_by_delete
delete_answers role (Of one.Ven id) = λ e. cc
delete_answers role (Under two.Resource ven id) = λ e. cc
delete_answers role (Of one.Report id) = λ e. cc
delete_answers role (Of one.Sub id) = λ e. cc
delete_answers role (Under two.Share program resource) = λ e. cc
delete_answers role (At root.Programs) = refl
delete_answers role _ = refl

-- by the tests of the four words
module _ (role : Role) (p : Path) (query body : List ℕ) where
  abbrev had : Bool → Bool → Bool → Bool → Bool
  had g o u d = cond g (methods_of (place_of p)).get (cond o (methods_of (place_of p)).post (cond u (methods_of (place_of p)).put (cond d (methods_of (place_of p)).delete false)))

  abbrev asked : Bool → Bool → Bool → Bool → Result (Option Asked) Refusal
  asked g o u d = cond g (asked_by_get role p query) (cond o (asked_by_post role p body) (cond u (asked_by_put role p body) (cond d (Ok (asked_by_delete role p)) (Ok None))))

  by_words : (g o u d : Bool) → Answers (had g o u d) (asked g o u d)
  by_words true o u d = get_answers role p query
  by_words false true u d = post_answers role p body
  by_words false false true d = put_answers role p body
  by_words false false false true = delete_answers role p
  by_words false false false false = refl

told : (v : Bool) (asked : Result (Option Asked) Refusal) → Answers v asked → (v ≡ true → asked ≢ Ok None) × (v ≡ false → asked ≡ Ok None)
told true asked h = (λ is. h, λ is. absurd cc)
told false asked h = (λ is. absurd cc, λ is. h)

pub methods_are_served : MethodsAreServed
unfolding asked_by
methods_are_served role method p query body = told _ _ (by_words role p query body (bytes_eq method (codes "GET")) (bytes_eq method (codes "POST")) (bytes_eq method (codes "PUT")) (bytes_eq method (codes "DELETE")))
