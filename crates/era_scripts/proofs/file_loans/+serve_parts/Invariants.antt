use Rattle.era_scripts.proofs.file_loans.+serve_parts.Given as goal

abbrev pub decreases-serve_parts : goal.decreases-serve_parts
decreases-serve_parts g l = l.count
