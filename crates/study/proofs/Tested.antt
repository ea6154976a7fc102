-- What a call's check comes to by the tests that it is put together from. Assumes nothing.
use Rattle.std.proofs.Common.{◌≡◌, ℕ, Ok, Err, Result, sym, ap, ◌∙◌, subst}
use Rattle.network.specs.Least.{Least, NothingWrong}
use Rattle.turns.specs.declared.fault.StudyFault.{StudyFault}
use Rattle.turns.specs.Refusals.{number, Checked}
use Rattle.study.specs.Standing.{Tests}

-- a test that refused, and with its fault the call
pub refused_as : {X : Type 0} (Wrong : ℕ → Type 0) (r : Result X StudyFault) (passed found fault : StudyFault) → r ≡ Err passed → passed ≡ found → found ≡ fault → Least Wrong (number fault) → Checked Wrong r
refused_as Wrong r passed found fault e f h least = subst (Checked Wrong) (sym (e ∙ ap Err (f ∙ h))) least

-- the last test decides
pub by_last : (Wrong : ℕ → Type 0) (fault : StudyFault) (Last : Type 0) (r : Result (Unit {0}) StudyFault) → Tests fault Last r → (Last → Least Wrong (number fault)) → ((Last → ⊥) → NothingWrong Wrong) → Checked Wrong r
by_last Wrong fault Last (Ok u) t least none = none t
by_last Wrong fault Last (Err found) t least none = subst (λ f. Least Wrong (number f)) (sym t.0) (least t.1)
