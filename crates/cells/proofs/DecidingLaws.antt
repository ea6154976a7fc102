-- When the pins of a cell decide its output: the computed time is the least that forces, it is the only one, and earlier pins decide no later.
-- Assumes nothing.
use Rattle.std.proofs.Common.{◌≡◌, ℕ, ◌^◌, ◌<◌, Bool, true, false, ◌⊎◌, Decides, Option, unwrap_or, sym, refl, ap, ◌∙◌, subst, ⊎_elim}
use Rattle.std.specs.Bool.{then_some}
use Rattle.times.specs.Kind.{Kind, NoLater, Laws}
use Rattle.cells.specs.Deciding.{settled_by, Decided, forcing_time, decide, OneOutputDecidesFirst}
use Rattle.cells.specs.Firsts.{FirstPassing, at_or_after, first_among, only_if}
use Rattle.cells.specs.Tables.{Forces, forces}
use Rattle.cells.proofs.FirstLaws.{first_passing}
use Rattle.cells.proofs.Forcing.{forces_to, forces_from, forces_more, forces_all, forces_same, forces_is}

module _ {Time : Type 0} (kind : Kind Time) (laws : Laws kind) where
  pub never_later : (a : Time) → NoLater kind a a
  never_later a = ⊎_elim (λ e. e) (λ e. e) (laws.total a a)

  -- the order by lateness
  pub after_total : (a b : Time) → (at_or_after kind a b ≡ true) ⊎ (at_or_after kind b a ≡ true)
  after_total a b = laws.total b a

  pub after_transitive : (a b c : Time) → at_or_after kind a b ≡ true → at_or_after kind b c ≡ true → at_or_after kind a c ≡ true
  after_transitive a b c p q = laws.transitive c b a q p

  module _ (table count row : ℕ) (time : ℕ → Time) where
    -- the latest of the pins settled at or before a time
    last_settled : (at : Time) (pin : ℕ) → pin < count → NoLater kind (time pin) at → (last : Time) × FirstPassing (at_or_after kind) (settled_by kind time at) time count last
    last_settled at pin h settled =
        let f = first_passing (at_or_after kind) after_total after_transitive time (settled_by kind time at) count pin h settled in
        (f.0, f.2)

    -- the pins settled at or before the latest pin's time force
    last_forces : row < 2 ^ count → 0 < count → (last : ℕ) × (last < count) × Forces (settled_by kind time (time last)) table count row
    last_forces below pins =
        let f = (first_passing (at_or_after kind) after_total after_transitive time (λ pin. true) count 0 pins refl).2 in
        (f.number, f.present, forces_all (settled_by kind time (time f.number)) table count row below (λ pin p. subst (NoLater kind (time pin)) (sym f.is) (f.least pin p refl)))

    pub decide_decided : row < 2 ^ count → 0 < count → Decided kind table count row time (decide kind table count row time)
    unfolding decide
    decide_decided below pins =
        let enough : ℕ → Bool = λ pin. forces (settled_by kind time (time pin)) table count row in
        let l = last_forces below pins in
        let f = first_passing kind.at_or_before laws.total laws.transitive time enough count l.0 l.1 (forces_from (settled_by kind time (time l.0)) table count row l.2) in
        let here : f.0 ≡ decide kind table count row time = sym (ap (λ o. unwrap_or o kind.start) f.1) in
        let p = f.2 in
        subst (Decided kind table count row time) here record {
          pin = p.number;
          present = p.present;
          pin_time = p.is;
          forced = subst (λ (at : Time). Forces (settled_by kind time at) table count row) p.is (forces_to (settled_by kind time (time p.number)) table count row p.passes);
          least = λ other h forced. p.least other h (forces_from (settled_by kind time (time other)) table count row forced);
        }

    pub decided_unique : (a b : Time) → Decided kind table count row time a → Decided kind table count row time b → a ≡ b
    decided_unique a b da db = laws.antisymmetric a b (no_later a b da db) (no_later b a db da)
      where
        no_later : (a b : Time) → Decided kind table count row time a → Decided kind table count row time b → NoLater kind a b
        no_later a b da db =
            subst (λ (at : Time). NoLater kind a at) db.pin_time
            (da.least db.pin db.present (subst (λ (at : Time). Forces (settled_by kind time at) table count row) (sym db.pin_time) db.forced))

    -- any time by which a pin has settled and the settled pins force is no earlier
    pub decided_within : (decided at : Time) (pin : ℕ) → Decided kind table count row time decided → pin < count → NoLater kind (time pin) at → Forces (settled_by kind time at) table count row → NoLater kind decided at
    decided_within decided at pin d h settled forced =
        let l = (last_settled at pin h settled).1 in
        let last : Time = time l.number in
        laws.transitive decided last at
        (d.least l.number l.present (forces_more (settled_by kind time at) (settled_by kind time last) table count row (λ other p s. subst (NoLater kind (time other)) (sym l.is) (l.least other p s)) forced))
        l.passes

  -- pins that settle no later decide no later
  pub decided_earlier : (table count row : ℕ) (early late : ℕ → Time) (a b : Time) → ((pin : ℕ) → pin < count → NoLater kind (early pin) (late pin))
      → Decided kind table count row early a → Decided kind table count row late b → NoLater kind a b
  decided_earlier table count row early late a b earlier da db =
      decided_within table count row early a b db.pin da db.present
      (subst (λ (at : Time). NoLater kind (early db.pin) at) db.pin_time (earlier db.pin db.present))
      (forces_more (settled_by kind late b) (settled_by kind early b) table count row
      (λ pin p s. laws.transitive (early pin) (late pin) b (earlier pin p) s) db.forced)

  pub decide_earlier : (table count row : ℕ) (early late : ℕ → Time) → row < 2 ^ count → 0 < count → ((pin : ℕ) → pin < count → NoLater kind (early pin) (late pin))
      → NoLater kind (decide kind table count row early) (decide kind table count row late)
  decide_earlier table count row early late below pins earlier =
      decided_earlier table count row early late _ _ earlier (decide_decided table count row early below pins) (decide_decided table count row late below pins)

  -- only the times of the pins below the count matter
  pub decide_same : (table count row : ℕ) (one other : ℕ → Time) → row < 2 ^ count → 0 < count → ((pin : ℕ) → pin < count → one pin ≡ other pin)
      → decide kind table count row one ≡ decide kind table count row other
  decide_same table count row one other below pins same =
      laws.antisymmetric _ _
      (decide_earlier table count row one other below pins (λ pin p. subst (λ (at : Time). NoLater kind (one pin) at) (same pin p) (never_later (one pin))))
      (decide_earlier table count row other one below pins (λ pin p. subst (λ (at : Time). NoLater kind at (one pin)) (same pin p) (never_later (one pin))))

  -- where the output is the same in all rows, any pin forces it
  pub one_output_first : OneOutputDecidesFirst kind
  one_output_first table count row time one below pins =
      let d = decide_decided table count row time below pins in
      record {
        number = d.pin;
        present = d.present;
        passes = refl;
        is = d.pin_time;
        least = λ other h _. d.least other h (λ o l _. one row o below l);
      }

then_some_is : {A : Type 0} (test : Bool) (a : A) → then_some test a ≡ only_if test a
then_some_is true a = refl
then_some_is false a = refl

-- what is kept of a pin's time is it where it forces
pub forcing_here : {Time : Type 0} (kind : Kind Time) (table count row : ℕ) (times : ℕ → Time) (pin : ℕ) (settled : ℕ → Bool) (enough : Bool) (time : Time) (kept : Option Time)
    → time ≡ times pin
    → ((other : ℕ) → settled other ≡ settled_by kind times time other)
    → Decides enough (Forces settled table count row)
    → kept ≡ then_some enough time
    → kept ≡ forcing_time kind table count row times pin
forcing_here kind table count row times pin settled enough time kept is told decides keeps =
    keeps ∙ then_some_is enough time ∙ ap (λ (test : Bool). only_if test time) (forces_is enough settled table count row decides ∙ forces_same settled (settled_by kind times time) table count row (λ other h. told other))
    ∙ ap (λ t. only_if (forces (settled_by kind times t) table count row) t) is

-- after all pins the least forcing time is the one at which they decide
pub forcing_all : {Time : Type 0} (kind : Kind Time) → Laws kind → (table count row : ℕ) (times : ℕ → Time) (pin : ℕ) (best : Option Time) (result : Time)
    → pin ≡ count → best ≡ first_among kind.at_or_before (forcing_time kind table count row times) pin → row < 2 ^ count → result ≡ unwrap_or best kind.start
    → (result ≡ decide kind table count row times) × (0 < count → Decided kind table count row times result)
unfolding decide
forcing_all {Time} kind laws table count row times pin best result all sofar below is =
    let value : result ≡ decide kind table count row times
    = is ∙ ap (λ (o : Option Time). unwrap_or o kind.start) (sofar ∙ ap (first_among kind.at_or_before (forcing_time kind table count row times)) all) in
    (value, λ pins. subst (Decided kind table count row times) (sym value) (decide_decided kind laws table count row times below pins))
