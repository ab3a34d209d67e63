use Rattle.certificate.proofs.Whole.{reads}
use Rattle.certificate.proofs.read.ReadCertificate.certificate.Goals as goal

pub returns-clause-reads : goal.returns-clause-reads
returns-clause-reads g c = let self = c.args.self.now in (c.kind.ensures, reads self.file.now self.bytes g.K.OfKind.kind self.places self.found)
