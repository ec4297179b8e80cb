use Rattle.std.proofs.Common.{◌≡◌, ℕ, Bool, false, Option, Some, arith, inl, inr, ◌%◌, ◌⊎◌, ap, ◌∙◌, pos}
use Rattle.std.specs.Int.{w128}
use Rattle.std.proofs.lemmas.Int.{to_z_pos}
use Rattle.jiff_core.specs.DateTime.{civil_nanos}
use Rattle.adr_text.proofs.MomentLemmas.{text_is}
use Rattle.adr_text.proofs.moment.printed.Goals as goal
use Rattle.adr_text.proofs.moment.printed.Goals.{then-count-eq0, else-count-eq0}

abbrev Options : Type 0
Options = Bool × ℕ × Option ℕ

-- the printer shows what the clock shows, with no places or nine
pub returns : goal.returns
returns c =
    let t = c.timestamp_text.ensures in
    let e : civil_nanos t.0 ≡ pos c.args.count = t.1 ∙ to_z_pos w128 c.args.count (omega arith) in
    let lower : c.precision-printer.result.lowercase ≡ false = ap (λ (o : Options). o.0) c.precision-printer.ensures ∙ ap (λ (o : Options). o.0) c.new.ensures in
    let letter : c.precision-printer.result.separator ≡ 84 = ap (λ (o : Options). o.1) c.precision-printer.ensures ∙ ap (λ (o : Options). o.1) c.new.ensures in
    let places : c.precision-printer.result.precision ≡ Some c.if-count-eq0.precision = ap (λ (o : Options). o.2) c.precision-printer.ensures in
    let how : ((c.args.count % 1_000_000_000 ≡ 0) × (c.if-count-eq0.precision ≡ 0)) ⊎ ((c.args.count % 1_000_000_000 ≡ 0 → ⊥) × (c.if-count-eq0.precision ≡ 9)) = elim c.if-count-eq0.branch [
      | then-count-eq0 w ↦ inl (w.if-count-eq0.true, w.precision-is)
      | else-count-eq0 w ↦ inr (w.if-count-eq0.false, w.precision-is)
    ] in
    t.2 ∙ rw (lower, letter, places) (text_is c.args.count c.if-count-eq0.precision t.0 c.requires e how)
