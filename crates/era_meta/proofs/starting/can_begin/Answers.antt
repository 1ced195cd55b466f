use Rattle.std.proofs.Common.{refl}
use Rattle.std.proofs.lemmas.Bool.{false≢true}
use Rattle.era_layout.specs.Root.{fields_of}
use Rattle.era_meta.proofs.CanBegin.{other-geometry}
use Rattle.era_meta.proofs.starting.can_begin.Goals as goal

pub returns-then-not-same_size-clause-found : goal.returns-then-not-same_size-clause-found
returns-then-not-same_size-clause-found g c = λ have seen is own numbered.
    other-geometry have seen c.args.meta.now.root.geometry c.args.asked.now (fields_of c.args.meta.now.root) is (refl, refl)
    (λ size. false≢true (c.if-not-same_size.ensures.1 size))
