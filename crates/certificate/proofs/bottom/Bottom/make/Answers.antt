use Rattle.std.proofs.Common.{arith}
use Rattle.reader.specs.declared.kind.Kind.TheVariants.{Platform}
use Rattle.certificate.proofs.Bottoms.{parts_counted, parts_few, issuer_sized, serial_sized}
use Rattle.certificate.proofs.bottom.Bottom.make.Goals as goal

pub head_of-requires : goal.head_of-requires
head_of-requires c =
    let x = c.certificate-certificate.result in
    let r = c.certificate-certificate.ensures.reads.1 in
    record { issuer = issuer_sized Platform x.file.now x.places r; serial = serial_sized Platform x.file.now x.places r }

pub invariant_of-result : goal.invariant_of-result
invariant_of-result c =
    let x = c.certificate-certificate.result in
    let r = c.certificate-certificate.ensures.reads.1 in
    let few = parts_few Platform x.file.now x.places r in
    record { counted = parts_counted Platform x.file.now x.places r; small = omega arith }

pub returns : goal.returns
returns c =
    let x = c.certificate-certificate.result in
    let r = c.certificate-certificate.ensures.reads.1 in
    record {
      file = c.certificate-certificate.ensures.file;
      head = record { issuer = c.head_of.ensures.issuer; serial = c.head_of.ensures.serial };
      few = parts_few Platform x.file.now x.places r;
      reads = r;
    }
