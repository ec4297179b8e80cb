use Rattle.std.proofs.Common.{◌≡◌, ◌++◌, map, IsTrue}
use Rattle.std.specs.Prelude.{All}
use Rattle.serde_json.specs.Data.{string}
use Rattle.serde_json.specs.View.{view}
use Rattle.adr_text.specs.Names.{is_name}
use Rattle.adr_objects.proofs.write_body.NameSetToJson.to_json.Given as goal

-- the texts so far and those of the names that are left are all of them, and so are the names
abbrev pub invariant-loop-name : goal.invariant-loop-name
invariant-loop-name l = record {
  texts : map view l.texts.items ++ map string l.name-iterator ≡ map string l.self;
  names : All (λ name. IsTrue (is_name name)) l.name-iterator → All (λ name. IsTrue (is_name name)) l.self;
}
