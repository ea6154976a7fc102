-- The calls so far determine the plain study. Assumes nothing.
use Rattle.std.proofs.Common.{sym, refl, ap, subst}
use Rattle.turns.specs.Plain.{Plain}
use Rattle.turns.specs.Refusals.{Wrong}
use Rattle.turns.specs.Runs.{changed_by, at_first, refused, accepted, AfterOnce}

pub after_once : {Time : Type 0} → AfterOnce Time
after_once opened _ _ _ at_first at_first = refl
after_once opened _ _ _ (refused p n w) (refused q m x) = after_once opened _ _ _ p q
after_once opened _ _ _ (refused {asked = asked} p n w) (accepted q none) = absurd (none n (subst (λ (plain : Plain). Wrong plain asked n) (after_once opened _ _ _ p q) w))
after_once opened _ _ _ (accepted {asked = asked} p none) (refused q m x) = absurd (none m (subst (λ (plain : Plain). Wrong plain asked m) (sym (after_once opened _ _ _ p q)) x))
after_once opened _ _ _ (accepted {asked = asked} p none) (accepted q none') = ap (λ (plain : Plain). changed_by plain asked) (after_once opened _ _ _ p q)
