use Rattle.std.proofs.Common.{refl, ap, inl, inr}
use Rattle.std.specs.Prelude.{Err}
use Rattle.era_tools.specs.Around.{bay_around}
use Rattle.era_top.proofs.ToolEnds.{none-returned}
use Rattle.era_top.proofs.tool.run_tool_words.Goals as goal

-- the job was done
pub returns-in-Ok-clause-report : goal.returns-in-Ok-clause-report
returns-in-Ok-clause-report g c = inr (record {
  job = c.in-Ok.job;
  asked = c.in-Ok.ensures.ok;
  ran = c.run_tool.ensures.ran;
})

-- the words are no command
pub returns-in-Err-Usage-clause-report : goal.returns-in-Err-Usage-clause-report
returns-in-Err-Usage-clause-report g c = inl (inl (
  c.in-Err-Usage.ensures.usage (ap (λ error. Err error) c.in-Err-Usage.field-0-is),
  record {
    left = record {
      bay_left = record { loans = refl; reads = λ device sector. refl };
      bay_faults = refl;
      source_left = record { left = refl; faults = refl };
    };
    printed = c.refuse_words.ensures.printed;
  },
))

-- memory was refused
pub returns-in-Err-Memory-clause-report : goal.returns-in-Err-Memory-clause-report
returns-in-Err-Memory-clause-report g c = inl (inr (record {
  left = record {
    bay_left = record { loans = refl; reads = λ device sector. refl };
    bay_faults = refl;
    source_left = record { left = refl; faults = refl };
  };
  printed = c.refuse_words-in-Err-Memory.ensures.printed;
}))

-- no disk was lent
pub returns-in-Err-Usage-clause-returned : goal.returns-in-Err-Usage-clause-returned
returns-in-Err-Usage-clause-returned g c = none-returned g.row.B-D.Denot (bay_around g.B.Bay c.args.bay.now c.args.bay.now) refl

pub returns-in-Err-Memory-clause-returned : goal.returns-in-Err-Memory-clause-returned
returns-in-Err-Memory-clause-returned g c = none-returned g.row.B-D.Denot (bay_around g.B.Bay c.args.bay.now c.args.bay.now) refl
