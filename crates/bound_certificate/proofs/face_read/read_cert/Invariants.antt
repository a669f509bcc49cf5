use Rattle.std.proofs.Common.{◌≡◌, ◌∷◌, length}
use Rattle.bound_certificate.specs.declared.version.Version.TheVariants as version
use Rattle.line_words.specs.Words.{parts_behind}
use Rattle.bound_certificate.proofs.FollowFacts.{Written}
use Rattle.bound_certificate.proofs.WholeTextFacts.{AtLine}
use Rattle.bound_certificate.proofs.WrittenFacts.{cert_of}
use Rattle.bound_certificate.proofs.face_read.read_cert.Given as goal

abbrev pub invariant-loop-part : goal.invariant-loop-part
invariant-loop-part l = record {
  written : Written;
  at : AtLine version.One l.dates l.number l.due written l.bytes (l.part.front.now ∷ parts_behind 10 l.part.rest);
  vectors : l.vectors ≡ written.vectors;
  came : l.cert ≡ cert_of l.dates written;
  leaf : length l.leaf.prices ≡ l.dates;
}

abbrev pub decreases-loop-part : goal.decreases-loop-part
decreases-loop-part l = length (parts_behind 10 l.part.rest)
