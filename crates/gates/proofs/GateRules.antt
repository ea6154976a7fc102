-- The force rule gives the plain gates the two rules. Assumes nothing.
-- One computed test over the gates, their pin counts, the rows and the sets of pins: a set forces just where a controlling pin is in it, or all pins are.
-- So the earliest controlling pin forces, and no set without one forces but the whole; the pins decide at one time only.
use Rattle.std.proofs.Common.{◌≡◌, ℕ, zero, suc, ◌^◌, ◌<◌, ◌≤◌, Bool, true, false, not, ◌&&◌, ◌||◌, leb, ◌⊎◌, Some, None, Option, sym, refl, ap, ◌∙◌, subst, inl, inr, ⊎_elim, true≢false, arith}
use mathlib.Core.Bool.{beq, false≢true}
use Rattle.std.proofs.lemmas.Bool.{and_parts, and_from, or_cases, or_left, le-leb}
use Rattle.times.specs.Kind.{Kind, NoLater, Laws}
use Rattle.cells.specs.Deciding.{settled_by, Decided, decide}
use Rattle.cells.specs.Firsts.{FirstPassing, at_or_after}
use Rattle.cells.specs.Tables.{bit, row, every_below, implies, Forces, forces}
use Rattle.cells.proofs.DecidingLaws.{never_later, after_total, after_transitive, decide_decided, decided_unique}
use Rattle.cells.proofs.FirstLaws.{first_passing}
use Rattle.cells.proofs.Forcing.{every_to, every_same, implies_to, same_true, true_same, forces_same, forces_to, forces_from, forces_all}
use Rattle.cells.proofs.Rows.{row_below, bit_row}
use Rattle.lines.specs.Limits.{max_pins}
use Rattle.gates.specs.declared.gate.Gate.{Gate}
use Rattle.gates.specs.declared.gate.Gate.TheVariants.{Buf, Not, And, Nand, Or, Nor, Xor, Xnor}
use Rattle.gates.specs.Gates.{fewest, most, outputs}
use Rattle.gates.specs.Rules.{LatestPin, TwoRules, Rule, PlainGatesSettle}
use Rattle.gates.proofs.PlainTables.{plain_has}

-- the pin value that alone fixes the output, if the gate has one
abbrev controlling : Gate → Option Bool
controlling Buf = None
controlling Not = None
controlling And = Some false
controlling Nand = Some false
controlling Or = Some true
controlling Nor = Some true
controlling Xor = None
controlling Xnor = None

-- the pin has the controlling value in the row
abbrev controls : Option Bool → ℕ → ℕ → Bool
controls None r pin = false
controls (Some value) r pin = beq (bit r pin) value

-- some number below `n` passes
abbrev some_below : ℕ → (ℕ → Bool) → Bool
some_below n test = not (every_below n (λ i. not (test i)))

-- a controlling pin is in the set, or all pins are
abbrev enough_pins : ℕ → Option Bool → ℕ → (ℕ → Bool) → Bool
enough_pins pins value r some = some_below pins (λ pin. some pin && controls value r pin) || every_below pins some

-- in each row, the pins of each set force just where they are enough
abbrev rule_test : ℕ → ℕ → Option Bool → Bool
rule_test table pins value = every_below (2 ^ pins) (λ r. every_below (2 ^ pins) (λ set. beq (forces (bit set) table pins r) (enough_pins pins value r (bit set))))

gate_test : Gate → Bool
gate_test gate = every_below (suc max_pins) (λ pins. implies (leb (fewest gate) pins && leb pins (most gate)) (rule_test (outputs gate pins) pins (controlling gate)))

tested : (gate : Gate) → gate_test gate ≡ true
unfolding gate_test
tested Buf = refl
tested Not = refl
tested And = refl
tested Nand = refl
tested Or = refl
tested Nor = refl
tested Xor = refl
tested Xnor = refl

most_below : (gate : Gate) → most gate < suc max_pins
most_below Buf = omega arith
most_below Not = omega arith
most_below And = omega arith
most_below Nand = omega arith
most_below Or = omega arith
most_below Nor = omega arith
most_below Xor = omega arith
most_below Xnor = omega arith

fewest_some : (gate : Gate) → 0 < fewest gate
fewest_some Buf = omega arith
fewest_some Not = omega arith
fewest_some And = omega arith
fewest_some Nand = omega arith
fewest_some Or = omega arith
fewest_some Nor = omega arith
fewest_some Xor = omega arith
fewest_some Xnor = omega arith

rule_holds : (gate : Gate) (pins : ℕ) → fewest gate ≤ pins → pins ≤ most gate → rule_test (outputs gate pins) pins (controlling gate) ≡ true
unfolding gate_test
rule_holds gate pins low high =
    let below = most_below gate in
    implies_to (leb (fewest gate) pins && leb pins (most gate)) (rule_test (outputs gate pins) pins (controlling gate))
    (every_to (suc max_pins) (λ n. implies (leb (fewest gate) n && leb n (most gate)) (rule_test (outputs gate n) n (controlling gate))) (tested gate) pins (omega arith))
    (and_from (leb (fewest gate) pins) (leb pins (most gate)) (le-leb (fewest gate) pins low) (le-leb pins (most gate) high))

-- the test says it of any set of pins, by the number whose bits the set is
rule_at : (table pins : ℕ) (value : Option Bool) → rule_test table pins value ≡ true → (r : ℕ) → r < 2 ^ pins → (some : ℕ → Bool) → forces some table pins r ≡ enough_pins pins value r some
rule_at table pins value passes r below some =
    let set : ℕ = row pins some in
    let bits : (pin : ℕ) → pin < pins → bit set pin ≡ some pin = bit_row pins some in
    let here = same_true (forces (bit set) table pins r) (enough_pins pins value r (bit set)) (every_to (2 ^ pins) _ (every_to (2 ^ pins) _ passes r below) set (row_below pins some)) in
    forces_same some (bit set) table pins r (λ pin p. sym (bits pin p))
    ∙ here
    ∙ ap (λ (b : Bool). not b || every_below pins (bit set)) (every_same pins _ (λ pin. not (some pin && controls value r pin)) (λ pin p. ap (λ (b : Bool). not (b && controls value r pin)) (bits pin p)))
    ∙ ap (λ (b : Bool). some_below pins (λ pin. some pin && controls value r pin) || b) (every_same pins (bit set) some bits)

some_from : (n : ℕ) (test : ℕ → Bool) (i : ℕ) → i < n → test i ≡ true → some_below n test ≡ true
some_from n test i h e = go (every_below n (λ k. not (test k))) refl
  where
    go : (b : Bool) → every_below n (λ k. not (test k)) ≡ b → not b ≡ true
    go true all = absurd (false≢true (sym (ap not e) ∙ every_to n (λ k. not (test k)) all i h))
    go false all = refl

some_to : (n : ℕ) (test : ℕ → Bool) → some_below n test ≡ true → (i : ℕ) × (i < n) × (test i ≡ true)
some_to zero test e = absurd (false≢true e)
some_to (suc n) test e = go (test n) refl e (some_to n test)
  where
    go : (b : Bool) → test n ≡ b → not (not b && every_below n (λ k. not (test k))) ≡ true → (some_below n test ≡ true → (i : ℕ) × (i < n) × (test i ≡ true)) → (i : ℕ) × (i < suc n) × (test i ≡ true)
    go true is e less = (n, omega arith, is)
    go false is e less = let q = less e in (q.0, omega (arith, q.1), q.2)

module _ (table pins r : ℕ) (value : Option Bool) (passes : rule_test table pins value ≡ true) (below : r < 2 ^ pins) where
  by_control : (some : ℕ → Bool) (pin : ℕ) → pin < pins → some pin ≡ true → controls value r pin ≡ true → Forces some table pins r
  by_control some pin p s c =
      forces_to some table pins r
      (rule_at table pins value passes r below some
      ∙ or_left (some_below pins (λ k. some k && controls value r k)) (every_below pins some) (some_from pins (λ k. some k && controls value r k) pin p (and_from (some pin) (controls value r pin) s c)))

  control_or_all : (some : ℕ → Bool) → Forces some table pins r → ((pin : ℕ) × (pin < pins) × (some pin ≡ true) × (controls value r pin ≡ true)) ⊎ ((pin : ℕ) → pin < pins → some pin ≡ true)
  control_or_all some forced =
      ⊎_elim
      (λ s.
      let q = some_to pins (λ k. some k && controls value r k) s in
      let both = and_parts (some q.0) (controls value r q.0) q.2 in
      inl (q.0, q.1, both.0, both.1))
      (λ all. inr (every_to pins some all))
      (or_cases (some_below pins (λ k. some k && controls value r k)) (every_below pins some) (sym (rule_at table pins value passes r below some) ∙ forces_from some table pins r forced))

  module _ {Time : Type 0} (kind : Kind Time) (laws : Laws kind) (time : ℕ → Time) where
    is_decide : (at : Time) → Decided kind table pins r time at → 0 < pins → at ≡ decide kind table pins r time
    is_decide at d some = decided_unique kind laws table pins r time at (decide kind table pins r time) d (decide_decided kind laws table pins r time below some)

    by_earliest : (pin : ℕ) → pin < pins → controls value r pin ≡ true → FirstPassing kind.at_or_before (controls value r) time pins (decide kind table pins r time)
    by_earliest pin p c =
        let found = first_passing kind.at_or_before laws.total laws.transitive time (controls value r) pins pin p c in
        let at : Time = found.0 in
        let f = found.2 in
        let d : Decided kind table pins r time at
        = record {
          pin = f.number;
          present = f.present;
          pin_time = f.is;
          forced = by_control (settled_by kind time at) f.number f.present (subst (NoLater kind (time f.number)) f.is (never_later kind laws (time f.number))) f.passes;
          least = λ other h forced.
              ⊎_elim
              (λ q. laws.transitive at (time q.0) (time other) (f.least q.0 q.1 q.3) q.2)
              (λ all. subst (λ (t : Time). NoLater kind t (time other)) f.is (all f.number f.present))
              (control_or_all (settled_by kind time (time other)) forced);
        } in
        subst (FirstPassing kind.at_or_before (controls value r) time pins) (is_decide at d (omega arith)) f

    by_latest : 0 < pins → ((pin : ℕ) → pin < pins → controls value r pin ≡ true → ⊥) → LatestPin kind pins time (decide kind table pins r time)
    by_latest some none =
        let found = first_passing (at_or_after kind) (after_total kind laws) (after_transitive kind laws) time (λ pin. true) pins 0 some refl in
        let at : Time = found.0 in
        let f = found.2 in
        let d : Decided kind table pins r time at
        = record {
          pin = f.number;
          present = f.present;
          pin_time = f.is;
          forced = forces_all (settled_by kind time at) table pins r below (λ pin p. f.least pin p refl);
          least = λ other h forced.
              ⊎_elim
              (λ q. absurd (none q.0 q.1 q.3))
              (λ all. subst (λ (t : Time). NoLater kind t (time other)) f.is (all f.number f.present))
              (control_or_all (settled_by kind time (time other)) forced);
        } in
        subst (FirstPassing (at_or_after kind) (λ pin. true) time pins) (is_decide at d some) f

module _ {Time : Type 0} (kind : Kind Time) (laws : Laws kind) (pins r : ℕ) (below : r < 2 ^ pins) (time : ℕ → Time) where
  latest : (gate : Gate) → controlling gate ≡ None → fewest gate ≤ pins → pins ≤ most gate → LatestPin kind pins time (decide kind (outputs gate pins) pins r time)
  latest gate none low high =
      let some = fewest_some gate in
      by_latest (outputs gate pins) pins r (controlling gate) (rule_holds gate pins low high) below kind laws time (omega arith)
      (λ pin p c. true≢false (sym c ∙ ap (λ (v : Option Bool). controls v r pin) none))

  two_rules : (gate : Gate) (value : Bool) → controlling gate ≡ Some value → fewest gate ≤ pins → pins ≤ most gate → TwoRules kind pins r time value (decide kind (outputs gate pins) pins r time)
  two_rules gate value has low high =
      let some = fewest_some gate in
      let passes : rule_test (outputs gate pins) pins (Some value) ≡ true = subst (λ (v : Option Bool). rule_test (outputs gate pins) pins v ≡ true) has (rule_holds gate pins low high) in
      record {
        controlled = λ pin p e. by_earliest (outputs gate pins) pins r (Some value) passes below kind laws time pin p (true_same (bit r pin) value e);
        uncontrolled = λ none. by_latest (outputs gate pins) pins r (Some value) passes below kind laws time (omega arith) (λ pin p c. none pin p (same_true (bit r pin) value c));
      }

  -- the latest of one pin is that pin
  only_pin : (at : Time) → pins ≤ 1 → LatestPin kind pins time at → time 0 ≡ at
  only_pin at one f =
      let first : 0 ≡ f.number = omega (arith, f.present) in
      ap time first ∙ f.is

  rule : (gate : Gate) → fewest gate ≤ pins → pins ≤ most gate → Rule kind pins r time gate (decide kind (outputs gate pins) pins r time)
  rule Buf low high = only_pin _ high (latest Buf refl low high)
  rule Not low high = only_pin _ high (latest Not refl low high)
  rule And low high = two_rules And false refl low high
  rule Nand low high = two_rules Nand false refl low high
  rule Or low high = two_rules Or true refl low high
  rule Nor low high = two_rules Nor true refl low high
  rule Xor low high = latest Xor refl low high
  rule Xnor low high = latest Xnor refl low high

pub plain_gates_settle : {Time : Type 0} (kind : Kind Time) → Laws kind → PlainGatesSettle kind
plain_gates_settle kind laws word pins table r time gate e named below =
    let t = plain_has word pins table gate e named in
    subst (λ (n : ℕ). Rule kind pins r time gate (decide kind n pins r time)) t.is (rule kind laws pins r below time gate t.enough t.few)
