-- Which statuses have the numbers of a fault and of a failed sink.
use Rattle.std.proofs.Common.{◌≡◌, ℕ, refl, ap, sym, ◌∙◌, arith}
use Rattle.era_tools.specs.Printing.{HasSinkCause, number_of}
use Rattle.era_tools.specs.declared.status.Status.{Status}
use Rattle.era_tools.specs.declared.status.Status.TheVariants.{Done, Damage, Usage, Line, Fault, Memory, Refused, Source, Sink}
use Rattle.era_top.specs.Top.{EndsBySink}

pub number-fault : (status : Status) → number_of status ≡ 4 → status ≡ Fault
number-fault Done is = absurd (omega (arith, is))
number-fault Damage is = absurd (omega (arith, is))
number-fault Usage is = absurd (omega (arith, is))
number-fault Line is = absurd (omega (arith, is))
number-fault Fault is = refl
number-fault Memory is = absurd (omega (arith, is))
number-fault Refused is = absurd (omega (arith, is))
number-fault Source is = absurd (omega (arith, is))
number-fault Sink is = absurd (omega (arith, is))

number-sink : (status : Status) → number_of status ≡ 8 → status ≡ Sink
number-sink Done is = absurd (omega (arith, is))
number-sink Damage is = absurd (omega (arith, is))
number-sink Usage is = absurd (omega (arith, is))
number-sink Line is = absurd (omega (arith, is))
number-sink Fault is = absurd (omega (arith, is))
number-sink Memory is = absurd (omega (arith, is))
number-sink Refused is = absurd (omega (arith, is))
number-sink Source is = absurd (omega (arith, is))
number-sink Sink is = refl

-- the number of a failed sink comes where it failed
pub ends-by_sink : (before now : ℕ) (status : Status) (number : ℕ) → number ≡ number_of status → HasSinkCause before now status → EndsBySink before now number
ends-by_sink before now status number same cause = record {
  rose = λ is. cause.rose (number-sink status (sym same ∙ is));
  kept = λ never. cause.kept (λ is. never (same ∙ ap number_of is));
}
