use Rattle.era_model.proofs.session_laws.end_is_among_the_crashes.Goals as goal

pub returns : goal.returns
returns c = λ h images ended. record { origin = ended.origin; metadata = ended.metadata.recovered }
