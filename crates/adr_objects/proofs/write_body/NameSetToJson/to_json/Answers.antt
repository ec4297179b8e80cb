use Rattle.std.proofs.Common.{IsTrue, arith}
use Rattle.std.proofs.lemmas.Grind.{common_steps}
use Rattle.std.proofs.lemmas.List.Elements.{All-cons}
use Rattle.adr_text.specs.Names.{is_name}
use Rattle.adr_objects.proofs.write_body.NameSetToJson.to_json.Goals as goal

pub loop-name-preserved : goal.loop-name-preserved
loop-name-preserved c = record {
  texts = grind (arith, common_steps);
  names = λ rest. c.loop-name.invariant.names (rw c.in-Some.ensures.steps (All-cons (λ name. IsTrue (is_name name)) c.in-Some.name.now c.next.new.self c.in_ok-to_json.ensures.kept rest));
}
