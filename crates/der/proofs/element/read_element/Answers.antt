use Rattle.std.proofs.Common.{arith}
use Rattle.der.proofs.Laws.{tells_from}
use Rattle.der.proofs.Lengths.{length_forms}
use Rattle.der.proofs.element.read_element.Goals as goal

pub returns : goal.returns
returns c =
    record {
      reads = c.element_of.ensures;
      tells = tells_from c.args.file.now c.args.place c.element_of.result (λ k. omega (arith, c.type_inv.file k)) c.element_of.ensures;
      lengths = length_forms;
    }
