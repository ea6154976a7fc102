-- A run that goes on by one call. Assumes nothing.
use Rattle.std.proofs.Common.{◌≡◌, ℕ, ◌≤◌, List, [], ◌∷◌, ◌++◌, map, length, sym, refl, ap, ◌∙◌, subst, append_assoc, append-nil, arith}
use Rattle.std.proofs.lemmas.List.{nil_from_length}
use Rattle.network.specs.Least.{Least, NothingWrong}
use Rattle.times.specs.Kind.{Kind}
use Rattle.study.specs.declared.study.Study.{Study}
use Rattle.study.specs.Standing.{plain_of, OpenWrong, Stands}
use Rattle.turns.specs.declared.calls.Call.{Call}
use Rattle.turns.specs.declared.calls.Reply.{Reply}
use Rattle.turns.specs.Answers.{Past, Answers}
use Rattle.turns.specs.Asked.{Asked, Told, asked, told}
use Rattle.turns.specs.Plain.{Plain}
use Rattle.turns.specs.Runs.{Run, goes_on, ended}
use Rattle.runs.specs.Replays.{ReplayWrong}

map_push_front : {X Y : Type 0} (f : X → Y) (xs : List X) (x : X) (ys : List Y) → map f (xs ++ (x ∷ [])) ++ ys ≡ map f xs ++ (f x ∷ ys)
map_push_front f [] x ys = refl
map_push_front f (y ∷ xs) x ys = ap (λ (l : List _). f y ∷ l) (map_push_front f xs x ys)

-- what is still to come, after the calls and replies so far, makes a run from the start
abbrev pub Goes_on : {Time : Type 0} → Kind Time → Plain → Past Time → List (Call Time) → List (Reply Time) → Type 0
Goes_on {Time} kind opened past done replies =
    (calls : List (Asked Time)) (tolds : List (Told Time)) → Run kind opened past calls tolds → Run kind opened [] (map asked done ++ calls) (map told replies ++ tolds)

module _ {Time : Type 0} (kind : Kind Time) (opened : Plain) where
  pub goes_on_more : (past : Past Time) (done : List (Call Time)) (replies replies' : List (Reply Time)) (study : Study Time) (call : Call Time) (reply : Reply Time) → Stands kind opened past study
      → Goes_on kind opened past done replies → Answers kind (plain_of study) past (asked call) (told reply) → replies' ≡ replies ++ (reply ∷ [])
      → Goes_on kind opened (record { call = asked call; reply = told reply } ∷ past) (done ++ (call ∷ [])) replies'
  goes_on_more past done replies replies' study call reply s so_far answer e calls tolds r =
      subst (λ (l : List (Reply Time)). Run kind opened [] (map asked (done ++ (call ∷ [])) ++ calls) (map told l ++ tolds)) (sym e)
      (subst (λ (l : List (Told Time)). Run kind opened [] (map asked (done ++ (call ∷ [])) ++ calls) l) (sym (map_push_front told replies reply tolds))
      (subst (λ (l : List (Asked Time)). Run kind opened [] l (map told replies ++ (told reply ∷ tolds))) (sym (map_push_front asked done call calls))
      (so_far (asked call ∷ calls) (told reply ∷ tolds) (goes_on s.plain answer r))))

  pub all_gone : (past : Past Time) (done all : List (Call Time)) (replies : List (Reply Time)) → done ≡ all → Goes_on kind opened past done replies → Run kind opened [] (map asked all) (map told replies)
  all_gone past done all replies e so_far =
      subst (λ (l : List (Call Time)). Run kind opened [] (map asked l) (map told replies)) e
      (subst (λ (l : List (Told Time)). Run kind opened [] (map asked done) l) (append-nil (map told replies))
      (subst (λ (l : List (Asked Time)). Run kind opened [] l (map told replies ++ [])) (append-nil (map asked done)) (so_far [] [] ended)))

pub front_more : {X : Type 0} (front rest rest' all : List X) (x : X) → front ++ rest ≡ all → rest ≡ x ∷ rest' → (front ++ x ∷ []) ++ rest' ≡ all
front_more front rest rest' all x e f = append_assoc front (x ∷ []) rest' ∙ ap (λ (l : List _). front ++ l) (sym f) ∙ e

pub front_all : {X : Type 0} (front rest all : List X) → front ++ rest ≡ all → length rest ≡ 0 → front ≡ all
front_all front rest all e h = sym (append-nil front) ∙ ap (λ (l : List _). front ++ l) (sym (nil_from_length rest h)) ∙ e

-- opening a run

module _ (lines ceilings room calls : ℕ) where
  at_least : (m : ℕ) → ReplayWrong lines ceilings room calls m → 14 ≤ m
  at_least _ (ReplayWrong.few_ceilings k) = omega arith
  at_least _ (ReplayWrong.few_replies k) = omega arith

  pub replay_14 : ReplayWrong lines ceilings room calls 14 → Least (ReplayWrong lines ceilings room calls) 14
  replay_14 h = record { fits = h; least = at_least }

  module _ (lines' ceilings' : ℕ) (same_lines : lines' ≡ lines) (same_ceilings : ceilings' ≡ ceilings) where
    pub replay_opening : (n : ℕ) → Least (OpenWrong lines' ceilings') n → Least (ReplayWrong lines ceilings room calls) n
    replay_opening n l = go n l.fits
      where
        go : (m : ℕ) → OpenWrong lines' ceilings' m → Least (ReplayWrong lines ceilings room calls) m
        go _ (OpenWrong.few_ceilings k) = replay_14 (ReplayWrong.few_ceilings (omega arith))

    pub replay_none : NothingWrong (OpenWrong lines' ceilings') → calls ≤ room → NothingWrong (ReplayWrong lines ceilings room calls)
    replay_none none enough _ (ReplayWrong.few_ceilings k) = none 14 (OpenWrong.few_ceilings (omega arith))
    replay_none none enough _ (ReplayWrong.few_replies k) = omega arith
