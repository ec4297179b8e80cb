-- What a request asks of the machine.
use Rattle.std.specs.Prelude.{ℕ, List, [], ◌∷◌, false, codes, Option, Some, None, option_and_then, unwrap_or, bytes_eq, Result, Ok, Err, if◌then◌else◌}
use Rattle.adr_text.specs.Refusals.{◌>>=◌}
use Rattle.adr_text.specs.declared.refusal.Refusal.{Refusal}
use Rattle.adr_schema.specs.Sites.{ven_of, resource_of, share_of, anything_of}
use Rattle.adr_schema.specs.Reports.{report_of}
use Rattle.adr_subscription.specs.Subscriptions.{sub_of}
use Rattle.adr_text.specs.declared.refusal.Refusal.TheVariants.{Forbidden}
use Rattle.adr_schema.specs.declared.notice.NoticeIn.{NoticeIn}
use Rattle.adr_schema.specs.declared.notice.NoticeIn.TheVariants as notice
use Rattle.adr_schema.specs.Notices.{notice_of}
use Rattle.adr_queries.specs.declared.role.Role.{Role}
use Rattle.adr_queries.specs.declared.role.Role.TheVariants.{Utility}
use Rattle.adr_machine.specs.declared.command.Command.TheVariants.{Evidence, Gone, VenAdd, VenPut, VenRemove, ResourceAdd, ResourcePut, ResourceRemove, ShareSet, Freeze, ReportPost, ReportPut, ReportDelete, SubPost, SubPut, SubDelete}
use Rattle.adr_queries.specs.declared.query.Query.TheVariants.{Programs, Program, Events, Event, Vens, Ven, Resources, Resource, Shares, Frozen, Reports, Report, Rollup, Subs, Sub, Outbox}
use Rattle.adr_asked.specs.declared.asked.Asked.{Asked}
use Rattle.adr_asked.specs.declared.asked.Asked.TheVariants as asked
use Rattle.adr_wire.specs.Cuts.{cut}
use Rattle.adr_asked.specs.Filters.{filter_asked, report_filter_asked}
use Rattle.adr_asked.specs.Queries.{page_asked}
use Rattle.adr_routes.specs.declared.methods.Methods.{Methods}
use Rattle.adr_routes.specs.declared.path.Path.{Path}
use Rattle.adr_routes.specs.declared.path.Path.TheVariants.{At, Of, Under}
use Rattle.adr_routes.specs.declared.place.Root.{Root}
use Rattle.adr_routes.specs.declared.place.Root.TheVariants as root
use Rattle.adr_routes.specs.declared.place.One.TheVariants as one
use Rattle.adr_routes.specs.declared.place.Two.TheVariants as two
use Rattle.adr_routes.specs.Places.{methods_of}
use Rattle.adr_routes.specs.Paths.{path_of, place_of}
use Rattle.adr_routes.specs.Words.{text_from}
use Rattle.adr_reply.specs.declared.problem.Problem.{Problem}
use Rattle.adr_reply.specs.declared.problem.Problem.TheVariants.{Refused, NoPath, NoMethod}

-- what is read at a path with no id
unfoldable pub root_asked : Role → Root → List ℕ → Result (Option Asked) Refusal
root_asked role root.Programs query = page_asked query >>= λ page. Ok (Some (asked.Query (Programs role page)))
root_asked role root.Events query = filter_asked query >>= λ wanted. page_asked query >>= λ page. Ok (Some (asked.Query (Events role wanted page)))
root_asked role root.Reports query = report_filter_asked query >>= λ wanted. page_asked query >>= λ page. Ok (Some (asked.Query (Reports role wanted page)))
root_asked role root.Subs query = report_filter_asked query >>= λ wanted. page_asked query >>= λ page. Ok (Some (asked.Query (Subs role wanted page)))
root_asked role root.Vens query = page_asked query >>= λ page. Ok (Some (asked.Query (Vens role page)))
root_asked role root.Outbox query = Ok (Some (asked.Query (Outbox role)))
root_asked role root.Notifications query = Ok None

-- what is read at a path: only a listing has a query
unfoldable pub asked_by_get : Role → Path → List ℕ → Result (Option Asked) Refusal
asked_by_get role (At at) query = root_asked role at query
asked_by_get role (Of one.Program id) query = Ok (Some (asked.Query (Program role id)))
asked_by_get role (Of one.Event id) query = Ok (Some (asked.Query (Event role id)))
asked_by_get role (Of one.Report id) query = Ok (Some (asked.Query (Report role id)))
asked_by_get role (Of one.Rollup event) query = Ok (Some (asked.Query (Rollup role event)))
asked_by_get role (Of one.Sub id) query = Ok (Some (asked.Query (Sub role id)))
asked_by_get role (Of one.Ven id) query = Ok (Some (asked.Query (Ven role id)))
asked_by_get role (Of one.Resources ven) query = page_asked query >>= λ page. Ok (Some (asked.Query (Resources role ven page)))
asked_by_get role (Under two.Resource ven id) query = Ok (Some (asked.Query (Resource role ven id)))
asked_by_get role (Of one.Shares program) query = Ok (Some (asked.Query (Shares role program)))
asked_by_get role (Of one.Frozen event) query = Ok (Some (asked.Query (Frozen role event)))
asked_by_get role (Under two.Share program resource) query = Ok None

-- what a notification asks, if it asks anything
abbrev pub told_asked : NoticeIn → Asked
told_asked (notice.Found version) = asked.Command (Evidence (version ∷ []) false)
told_asked (notice.Gone kind id) = asked.Command (Gone kind id)
told_asked notice.Ignored = asked.Nothing

-- only the utility notifies
abbrev pub notice_asked : Role → NoticeIn → Result (Option Asked) Refusal
notice_asked Utility n = Ok (Some (told_asked n))
notice_asked _ n = Err Forbidden

-- `POST /notifications`
abbrev pub notified : Role → List ℕ → Result (Option Asked) Refusal
notified role body = notice_of body >>= notice_asked role

-- what is posted to a path
unfoldable pub asked_by_post : Role → Path → List ℕ → Result (Option Asked) Refusal
asked_by_post role (At root.Vens) body = ven_of body >>= λ ven. Ok (Some (asked.Command (VenAdd role ven)))
asked_by_post role (At root.Notifications) body = notified role body
asked_by_post role (At root.Reports) body = report_of body >>= λ report. Ok (Some (asked.Command (ReportPost role report)))
asked_by_post role (At root.Subs) body = sub_of body >>= λ sub. Ok (Some (asked.Command (SubPost role sub)))
asked_by_post role (Of one.Resources ven) body = resource_of body >>= λ resource. Ok (Some (asked.Command (ResourceAdd role ven resource)))
asked_by_post role _ body = Ok None

-- what is put at a path: what a body says that freezes an event is passed over, but it is JSON
unfoldable pub asked_by_put : Role → Path → List ℕ → Result (Option Asked) Refusal
asked_by_put role (Of one.Ven id) body = ven_of body >>= λ ven. Ok (Some (asked.Command (VenPut role id ven)))
asked_by_put role (Under two.Resource ven id) body = resource_of body >>= λ resource. Ok (Some (asked.Command (ResourcePut role ven id resource)))
asked_by_put role (Of one.Report id) body = report_of body >>= λ report. Ok (Some (asked.Command (ReportPut role id report)))
asked_by_put role (Of one.Sub id) body = sub_of body >>= λ sub. Ok (Some (asked.Command (SubPut role id sub)))
asked_by_put role (Under two.Share program resource) body = share_of body >>= λ share. Ok (Some (asked.Command (ShareSet role program resource share)))
asked_by_put role (Of one.Frozen event) body = anything_of body >>= λ passed_over. Ok (Some (asked.Command (Freeze role event)))
asked_by_put role _ body = Ok None

-- what is removed at a path: a share by setting it to 0
unfoldable pub asked_by_delete : Role → Path → Option Asked
asked_by_delete role (Of one.Ven id) = Some (asked.Command (VenRemove role id))
asked_by_delete role (Under two.Resource ven id) = Some (asked.Command (ResourceRemove role ven id))
asked_by_delete role (Of one.Report id) = Some (asked.Command (ReportDelete role id))
asked_by_delete role (Of one.Sub id) = Some (asked.Command (SubDelete role id))
asked_by_delete role (Under two.Share program resource) = Some (asked.Command (ShareSet role program resource (record { share = 0 })))
asked_by_delete role _ = None

-- what is asked at a path by the method; nothing by another word than GET, POST, PUT and DELETE
unfoldable pub asked_by : Role → List ℕ → Path → List ℕ → List ℕ → Result (Option Asked) Refusal
asked_by role method path query body =
    if bytes_eq method (codes "GET") then asked_by_get role path query
    else (if bytes_eq method (codes "POST") then asked_by_post role path body
    else (if bytes_eq method (codes "PUT") then asked_by_put role path body
    else (if bytes_eq method (codes "DELETE") then Ok (asked_by_delete role path)
    else Ok None)))

-- what was asked, or why nothing is: a method that the path hasn't is none
abbrev pub asked_or : Methods → Result (Option Asked) Refusal → Result Asked Problem
asked_or methods (Ok (Some a)) = Ok a
asked_or methods (Ok None) = Err (NoMethod methods)
asked_or methods (Err refusal) = Err (Refused refusal)

-- what is asked at a path
abbrev pub asked_at : Role → List ℕ → Path → List ℕ → List ℕ → Result Asked Problem
asked_at role method path query body = asked_or (methods_of (place_of path)) (asked_by role method path query body)

-- the path that the bytes are, where they are text and there is such a path
abbrev pub path_in : List ℕ → Option Path
path_in bytes = option_and_then path_of (text_from bytes)

abbrev pub at_path : Role → List ℕ → Option Path → List ℕ → List ℕ → Result Asked Problem
at_path role method None query body = Err NoPath
at_path role method (Some path) query body = asked_at role method path query body

-- what a role asks by a method, a path, behind `?` a query, and a body, or why it asks nothing
unfoldable pub asked_of : Role → List ℕ → List ℕ → List ℕ → Result Asked Problem
asked_of role method target body = at_path role method (path_in (cut 63 target).0) (unwrap_or (cut 63 target).1 []) body
