use Rattle.era_meta_faults.proofs.runs.+serve_before.Given as goal

abbrev pub decreases-serve_before : goal.decreases-serve_before
decreases-serve_before g l = l.times
