-- What was saved stands at the front of the buffer. Assumes nothing.
use Rattle.desk.proofs.Going.{saved-whole}
use Rattle.desk.proofs.saving.save_state.Goals as goal

pub slice_bounds-out-end : goal.slice_bounds-out-end
slice_bounds-out-end g c = (saved-whole _ _ _ _ c.requires _ _ _ _ c.in_ok-size.ensures.cases c.save.ensures).within

pub invariant_of-file : goal.invariant_of-file
invariant_of-file g c = record { saved = ∣ (saved-whole _ _ _ _ c.requires _ _ _ _ c.in_ok-size.ensures.cases c.save.ensures).saved ∣₁ }
