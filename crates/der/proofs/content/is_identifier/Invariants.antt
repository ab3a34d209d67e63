use Rattle.std.proofs.Common.{◌≡◌, drop}
use Rattle.der.specs.Contents.{identifier_behind}
use Rattle.der.proofs.content.is_identifier.Given as goal

abbrev pub invariant-loop-byte : goal.invariant-loop-byte
invariant-loop-byte l = identifier_behind l.last (drop l.byte-index l.content) ≡ identifier_behind 0 l.content
