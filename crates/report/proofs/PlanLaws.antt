-- Plans made one line after another. Assumes nothing.
use Rattle.std.proofs.Common.{◌≡◌, ℕ, suc, List, [], ◌∷◌, ◌++◌, map, length, Some, None, vec_items, vec_len, Option, sym, refl, ap, ◌∙◌, subst, append-nil, arith}
use Rattle.std.proofs.lemmas.List.{map_push, length-map}
use Rattle.names.specs.Kept.{bytes_of}
use Rattle.times.specs.declared.ticks.Ticks.{Ticks}
use Rattle.turns.specs.Asked.{Asked, asked}
use Rattle.report.specs.declared.plan.Plan.{Plan}
use Rattle.report.specs.Answers.{LineForm}
use Rattle.report.specs.Plans.{AsksWorst, no_call, a_call}
use Rattle.report.specs.Planned.{asked_in, named_one, OneMore, Adds, PlansFor}
use Rattle.report.proofs.Running.{asks_push}

abbrev name_of : LineForm → List ℕ
name_of form = form.name

-- nothing asked yet
pub plans_none : (plan : Plan) → vec_len plan.calls ≡ 0 → PlansFor [] plan
plans_none plan none = record { asks = subst (AsksWorst []) (sym (empty asked (vec_items plan.calls) (sym plan.calls.ok.0 ∙ none))) no_call; names = empty bytes_of (vec_items plan.names) (sym plan.names.ok.0 ∙ plan.beside ∙ none) }
  where
    empty : {X Y : Type 0} (f : X → Y) (xs : List X) → length xs ≡ 0 → map f xs ≡ []
    empty f [] e = refl
    empty f (x ∷ xs) e = absurd (omega arith)

plans_one : (forms : List LineForm) (before after : Plan) (form : LineForm) → PlansFor forms before → OneMore before after form.number form.name → PlansFor (forms ++ (form ∷ [])) after
plans_one forms before after form p m = record {
  asks = subst (AsksWorst (forms ++ (form ∷ []))) (sym m.asks) (asks_push forms (asked_in before) form m.vector m.work p.asks m.wide m.deep);
  names = m.names ∙ ap (λ v. v ++ (form.name ∷ [])) p.names ∙ sym (map_push name_of forms form);
}

pub plans_on : (forms : List LineForm) (before after : Plan) (line : ℕ) (name : Option (List ℕ)) → PlansFor forms before → Adds before after (named_one line name) → PlansFor (forms ++ named_one line name) after
plans_on forms before after line None p (a, n) = record { asks = subst (λ fs. AsksWorst fs (asked_in after)) (sym (append-nil forms)) (subst (AsksWorst forms) (sym a) p.asks); names = n ∙ p.names ∙ ap (map name_of) (sym (append-nil forms)) }
plans_on forms before after line (Some name) p m = plans_one forms before after (record { number = line; name = name }) p m

asks_long : (forms : List LineForm) (calls : List (Asked Ticks)) → AsksWorst forms calls → length calls ≡ length forms
asks_long [] [] no_call = refl
asks_long [] (c ∷ calls) asks = elim asks [ ]
asks_long (f ∷ forms) [] asks = elim asks [ ]
asks_long (f ∷ forms) (c ∷ calls) (a_call g v w a b asks) = ap suc (asks_long forms calls asks)

-- as many calls as forms
pub planned_long : (forms : List LineForm) (plan : Plan) → PlansFor forms plan → vec_len plan.calls ≡ length forms
planned_long forms plan p = plan.calls.ok.0 ∙ sym (length-map (vec_items plan.calls) asked) ∙ asks_long forms (asked_in plan) p.asks
