-- The first of some attributes, as far as their forms fix the sizes of their values.
use Rattle.std.proofs.Common.{◌≡◌, ℕ, zero, suc, ◌+◌, ◌-◌, ◌≤◌, ◌<◌, List, [], ◌∷◌, ◌++◌, length, take, drop, get_or, Option, Some, None, refl, sym, ap, ◌∙◌, subst, arith}
use Rattle.std.specs.Prelude.{option_map, option_and_then, slice_get}
use Rattle.std.proofs.lemmas.Option.{same_Some}
use Rattle.std.proofs.lemmas.List.{drop_more, drop-drop, drop-take, take-take, length-take, length-append}
use Rattle.dwarf_forms.specs.declared.declaration.Spec.{Spec}
use Rattle.dwarf_forms.specs.declared.fronts.FixedFront.{FixedFront}
use Rattle.dwarf_forms.specs.Sizes.{form_size, fixed_size, in_32_bits, IsFixedFront}
use Rattle.dwarf_forms.specs.private.SpecParts.{AreFixedFronts}
use Rattle.dwarf_forms.proofs.FixedSizes.{Parts, parts, is_size}

-- no attribute
pub none_fixed : (specs : List Spec) → IsFixedFront specs (record { count = 0; bytes = 0 })
none_fixed specs = record { within = omega arith; sized = refl }

-- ---- one attribute more

sum_of : (first others : Option ℕ) (bytes sum : ℕ) → others ≡ Some bytes → Some sum ≡ in_32_bits (option_map (λ n. bytes + n) first)
    → option_and_then (λ a. option_map (λ b. a + b) others) first ≡ Some sum
sum_of None others bytes sum is e = absurd cc
sum_of (Some a) others bytes sum is e =
    let all : Some (bytes + a) ≡ Some sum = is_size (Some (bytes + a)) sum e in
    rw is (ap Some (let e : a + bytes ≡ bytes + a = omega arith in e) ∙ all)

pub one_more : (spec : Spec) (specs : List Spec) (others : FixedFront) (count bytes : ℕ) → IsFixedFront specs others → count ≡ others.count + 1
    → Some bytes ≡ in_32_bits (option_map (λ n. others.bytes + n) (form_size spec.form)) → IsFixedFront (spec ∷ specs) (record { count = count; bytes = bytes })
one_more spec specs others count bytes is more sum = record {
  within = let w = is.within in omega arith;
  sized =
      ap (λ (n : ℕ). fixed_size (take n (spec ∷ specs))) (let e : count ≡ suc others.count = omega arith in e)
      ∙ sum_of (form_size spec.form) (fixed_size (take others.count specs)) others.bytes bytes is.sized sum;
}

-- the last attributes, and the one before them
one_before : (specs : List Spec) (behind : ℕ) (d : Spec) → behind < length specs
    → drop (length specs - (behind + 1)) specs ≡ get_or specs (length specs - 1 - behind) d ∷ drop (length specs - behind) specs
one_before specs behind d lt =
    ap (λ (n : ℕ). drop n specs) (let e : length specs - (behind + 1) ≡ length specs - 1 - behind = omega arith in e)
    ∙ drop_more specs (length specs - 1 - behind) d (omega arith)
    ∙ ap (λ (n : ℕ). get_or specs (length specs - 1 - behind) d ∷ drop n specs) (let e : length specs - 1 - behind + 1 ≡ length specs - behind = omega arith in e)

-- a list that grows by one keeps what holds of each with its index
pushed : {X : Type 0} (P : ℕ → X → Type 0) (xs : List X) (x : X) → ((n : ℕ) (y : X) → slice_get xs n ≡ Some y → P n y) → P (length xs) x
    → (n : ℕ) (y : X) → slice_get (xs ++ x ∷ []) n ≡ Some y → P n y
pushed P [] x each last zero y e = subst (P 0) (same_Some x y e) last
pushed P [] x each last (suc n) y e = absurd cc
pushed P (z ∷ xs) x each last zero y e = each 0 y e
pushed P (z ∷ xs) x each last (suc n) y e = pushed (λ k. P (suc k)) xs x (λ k w is. each (suc k) w is) last n y e

-- fronts that grow by that of one attribute more
more_fronts : (specs : List Spec) (fronts new : List FixedFront) (front : FixedFront) → new ≡ fronts ++ front ∷ [] → AreFixedFronts specs fronts
    → IsFixedFront (drop (length specs - length fronts) specs) front → AreFixedFronts specs new
more_fronts specs fronts new front grown are is =
    subst (AreFixedFronts specs) (sym grown) (pushed (λ n f. IsFixedFront (drop (length specs - n) specs) f) fronts front are is)

-- the fronts of the last attributes and of one more
pub record AreFrontsOf (specs : List Spec) (fronts : List FixedFront) (front : FixedFront) (behind : ℕ) : Type 0 where
  pub are : AreFixedFronts specs fronts
  pub long : length fronts ≡ behind + 1
  pub last : IsFixedFront (drop (length specs - behind) specs) front

pub next_front : (specs : List Spec) (fronts new : List FixedFront) (front next : FixedFront) (behind : ℕ) (d : Spec) → behind < length specs
    → AreFrontsOf specs fronts front behind → new ≡ fronts ++ next ∷ []
    → ((others : List Spec) → IsFixedFront others front → IsFixedFront (get_or specs (length specs - 1 - behind) d ∷ others) next) → AreFrontsOf specs new next (behind + 1)
next_front specs fronts new front next behind d lt old grown step =
    let here : IsFixedFront (drop (length specs - (behind + 1)) specs) next =
    subst (λ (xs : List Spec). IsFixedFront xs next) (sym (one_before specs behind d lt)) (step (drop (length specs - behind) specs) old.last) in
    record {
      are = more_fronts specs fronts new next grown old.are (subst (λ (n : ℕ). IsFixedFront (drop (length specs - n) specs) next) (sym old.long) here);
      long = let l : length new ≡ length fronts + 1 = ap length grown ∙ length-append fronts (next ∷ []) in let o = old.long in omega arith;
      last = here;
    }

-- ---- the front of a part of the attributes

-- how many bytes are ahead of those that end where all end
record Ahead (specs : List Spec) (count whole back : ℕ) : Type 0 where
  bytes : ℕ
  is : fixed_size (take count specs) ≡ Some bytes
  sum : bytes + back ≡ whole

joined : (first others : Option ℕ) (x y : ℕ) → first ≡ Some x → others ≡ Some y → option_and_then (λ a. option_map (λ b. a + b) others) first ≡ Some (x + y)
joined first others x y one rest = rw (one, rest) refl

ahead : (count : ℕ) (specs : List Spec) (others all whole back : ℕ) → all ≡ count + others → count ≤ length specs → fixed_size (take all specs) ≡ Some whole
    → fixed_size (take others (drop count specs)) ≡ Some back → Ahead specs count whole back
ahead zero specs others all whole back sum le is rest =
    let same : Some whole ≡ Some back = sym is ∙ ap (λ (n : ℕ). fixed_size (take n specs)) (let e : all ≡ others = omega arith in e) ∙ rest in
    let one : whole ≡ back = same_Some whole back same in
    record { bytes = 0; is = refl; sum = omega arith }
ahead (suc count) [] others all whole back sum le is rest = absurd (omega arith)
ahead (suc count) (spec ∷ specs) others zero whole back sum le is rest = absurd (omega arith)
ahead (suc count) (spec ∷ specs) others (suc all) whole back sum le is rest =
    let p : Parts (form_size spec.form) (fixed_size (take all specs)) whole = parts (form_size spec.form) (fixed_size (take all specs)) whole is in
    let a : Ahead specs count p.back back = ahead count specs others all p.back back (omega arith) (omega arith) p.back_is rest in
    record { bytes = p.front + a.bytes; is = joined (form_size spec.form) (fixed_size (take count specs)) p.front a.bytes p.front_is a.is; sum = let x = p.sum in let y = a.sum in omega arith }

pub front_ahead : (specs : List Spec) (whole back : FixedFront) (count front bytes : ℕ) → IsFixedFront specs whole → IsFixedFront (drop count specs) back → count ≤ length specs
    → front ≡ count → front + back.count ≡ whole.count → bytes + back.bytes ≡ whole.bytes → IsFixedFront (take count specs) (record { count = front; bytes = bytes })
front_ahead specs whole back count front bytes all rest le same counted summed =
    let a : Ahead specs count whole.bytes back.bytes = ahead count specs back.count whole.count whole.bytes back.bytes (omega arith) le all.sized rest.sized in
    record {
      within = omega (arith, length-take count specs);
      sized =
          ap (λ (n : ℕ). fixed_size (take n (take count specs))) same ∙ ap fixed_size (take-take count count specs (omega arith)) ∙ a.is
          ∙ ap Some (let s = a.sum in let e : a.bytes ≡ bytes = omega arith in e);
    }

-- a front is that of as many attributes or more
pub front_within : (specs : List Spec) (front : FixedFront) (count : ℕ) → IsFixedFront specs front → front.count ≤ count → IsFixedFront (take count specs) front
front_within specs front count is le = record {
  within = let w = is.within in omega (arith, length-take count specs);
  sized = ap fixed_size (take-take front.count count specs le) ∙ is.sized;
}

-- attributes between two indices
between : (specs : List Spec) (from to : ℕ) → from ≤ to → drop from (take to specs) ≡ take (to - from) (drop from specs)
between specs from to le =
    ap (λ (n : ℕ). drop from (take n specs)) (let e : to ≡ from + (to - from) = omega arith in e) ∙ drop-take from (to - from) specs

pub front_between : (specs : List Spec) (from to : ℕ) (front : FixedFront) → from ≤ to → IsFixedFront (take (to - from) (drop from specs)) front → IsFixedFront (drop from (take to specs)) front
front_between specs from to front le is = subst (λ (xs : List Spec). IsFixedFront xs front) (sym (between specs from to le)) is

-- the attributes from an index on are the last ones
pub from_index : (specs : List Spec) (count from : ℕ) (front : FixedFront) → length specs ≡ count → from ≤ count → IsFixedFront (drop (length specs - (count - from)) specs) front
    → IsFixedFront (drop from specs) front
from_index specs count from front long le is = subst (λ (n : ℕ). IsFixedFront (drop n specs) front) (let e : length specs - (count - from) ≡ from = omega arith in e) is

pub behind_index : (specs : List Spec) (from to : ℕ) (front : FixedFront) → from ≤ to → IsFixedFront (drop to specs) front → IsFixedFront (drop (to - from) (drop from specs)) front
behind_index specs from to front le is =
    subst (λ (xs : List Spec). IsFixedFront xs front)
    (sym (drop-drop (to - from) from specs ∙ ap (λ (n : ℕ). drop n specs) (let e : from + (to - from) ≡ to = omega arith in e))) is
