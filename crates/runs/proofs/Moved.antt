-- A call and its reply with owned buffers, from those with lent ones. Assumes nothing.
use Rattle.std.proofs.Common.{◌≡◌, ℕ, Bool, List, Result, sym, subst}
use Rattle.times.specs.Kind.{Kind}
use Rattle.settling.specs.declared.latest.Latest.{Latest}
use Rattle.study.specs.declared.study.Study.{Study}
use Rattle.study.specs.Standing.{Promises}
use Rattle.seeking.specs.declared.seek.Looked.{Looked}
use Rattle.turns.specs.declared.answers.Greatest.{Greatest}
use Rattle.turns.specs.declared.fault.StudyFault.{StudyFault}
use Rattle.turns.specs.Asked.{Asked, settle, seek, worst, Told, told_settle, told_seek, told_worst}

module _ {Time : Type 0} (kind : Kind Time) (before after : Study Time) where
  -- the same call, as it came
  pub as_asked : (from to : Asked Time) (reply : Told Time) → from ≡ to → Promises kind before after from reply → Promises kind before after to reply
  as_asked from to reply e h = subst (λ (a : Asked Time). Promises kind before after a reply) e h

  moved : (from to : Asked Time) (reply reply' : Told Time) → from ≡ to → reply ≡ reply' → Promises kind before after from reply → Promises kind before after to reply'
  moved from to reply reply' e f h = as_asked from to reply' e (subst (Promises kind before after from) f h)

  pub settle_moved : (vector : List ℕ) (values : List Bool) (times : List Time) (given : List ℕ) (seen left held : List Bool) (seen_times left_times held_times : List Time) (outcome : Result (Unit {0}) StudyFault)
      → given ≡ vector → seen ≡ values → held ≡ left → seen_times ≡ times → held_times ≡ left_times
      → Promises kind before after (settle given seen seen_times) (told_settle outcome left left_times) → Promises kind before after (settle vector values times) (told_settle outcome held held_times)
  settle_moved vector values times given seen left held seen_times left_times held_times outcome g a b c d h =
      moved (settle given seen seen_times) (settle vector values times) (told_settle outcome left left_times) (told_settle outcome held held_times)
      (λ i. settle (g i) (a i) (c i)) (λ i. told_settle outcome (sym b i) (sym d i)) h

  module _ (vector : List ℕ) (work : List (Latest Time)) (seen left held : List ℕ) (seen_work left_work held_work : List (Latest Time))
      (a : seen ≡ vector) (b : held ≡ left) (c : seen_work ≡ work) (d : held_work ≡ left_work) where
    pub seek_moved : (line value : ℕ) (bound : Time) (outcome : Result (Looked Time) StudyFault)
        → Promises kind before after (seek line value bound seen seen_work) (told_seek outcome left left_work) → Promises kind before after (seek line value bound vector work) (told_seek outcome held held_work)
    seek_moved line value bound outcome h =
        moved (seek line value bound seen seen_work) (seek line value bound vector work) (told_seek outcome left left_work) (told_seek outcome held held_work)
        (λ i. seek line value bound (a i) (c i)) (λ i. told_seek outcome (sym b i) (sym d i)) h

    pub worst_moved : (line : ℕ) (outcome : Result (Greatest Time) StudyFault)
        → Promises kind before after (worst line seen seen_work) (told_worst outcome left left_work) → Promises kind before after (worst line vector work) (told_worst outcome held held_work)
    worst_moved line outcome h =
        moved (worst line seen seen_work) (worst line vector work) (told_worst outcome left left_work) (told_worst outcome held held_work)
        (λ i. worst line (a i) (c i)) (λ i. told_worst outcome (sym b i) (sym d i)) h
