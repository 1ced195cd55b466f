use Rattle.std.proofs.Common.{ℕ, ◌∙◌, ap, inl, inr, refl, subst}
use Rattle.era_model.specs.Marks.{BlockMarks}
use Rattle.era_tools.specs.Printing.{Prints}
use Rattle.era_tools.specs.ToolLines.{restored_line}
use Rattle.era_tools.specs.declared.status.Status.TheVariants.{Done}
use Rattle.era_tools.proofs.Restored.{of-reading}
use Rattle.era_tools.proofs.restoring.restore.Goals as goal

-- a sink has no part in a reading
pub refuse_text-requires : goal.refuse_text-requires
refuse_text-requires g c = of-reading _ _ c.in-Err.end c.in-Err.ensures.cause

-- the text wasn't read to its end
pub returns-in-Err-clause-ran : goal.returns-in-Err-clause-ran
returns-in-Err-clause-ran g c = inr (inr (record {
  ended = c.in-Err.end;
  cause = record {
    told = c.in-Err.ensures.told;
    rest = c.in-Err.ensures.leaves;
    cause = c.in-Err.ensures.cause;
  };
  left = record { loans = refl; reads = λ device sector. refl };
  faults = refl;
  printed = c.refuse_text.ensures.printed;
}))

-- the device isn't restored
pub returns-clause-ran : goal.returns-clause-ran
returns-clause-ran g c = inr (inl (record {
  marks = c.in-Ok.marks;
  read = record {
    told = c.in-Ok.ensures.told;
    valid = c.in-Ok.ensures.valid;
    faults = c.in-Ok.ensures.cause;
  };
  refusal = c.in-Err-restore_metadata.refusal;
  cause = c.in-Err-restore_metadata.ensures;
  printed = c.refuse.ensures.printed;
}))

-- it was restored
pub returns-in-Ok-restore_metadata-clause-ran : goal.returns-in-Ok-restore_metadata-clause-ran
returns-in-Ok-restore_metadata-clause-ran g c = inl (record {
  marks = c.in-Ok.marks;
  read = record {
    told = c.in-Ok.ensures.told;
    valid = c.in-Ok.ensures.valid;
    faults = c.in-Ok.ensures.cause;
  };
  lent = c.in-Ok-restore_metadata.ensures.0;
  restored = c.in-Ok-restore_metadata.ensures.1;
  printed = subst (λ (era : ℕ). Prints (g.K.Sink.given c.args.sink.now) (g.K.Sink.given c.print_number.new.sink) (restored_line era) Done c.print_number.result)
      (c.from.ensures ∙ ap (λ (m : BlockMarks). m.era) c.marks.view_is) c.print_number.ensures.printed;
})
