-- Where the descendants of a node end.
use Rattle.std.proofs.Common.{◌≡◌, ℕ, ◌+◌, ◌<◌, ◌≤◌, ◌==◌, ◌&&◌, true, false, List, length, get_or, sym, ap, subst, ◌∙◌, arith, inl, inr, true≢false, nat_lt}
use Rattle.std.specs.Prelude.{set}
use Rattle.std.proofs.lemmas.Bool.{and_from, and_parts, cases_eq, cases_lt, eq-eqb, eqb-true, lt-ltb}
use Rattle.std.proofs.lemmas.Bool.Decides.{nat_tests}
use Rattle.std.proofs.lemmas.List.{get_or-set_same, get_or-set_other, length-set}
use Rattle.tree_types.specs.declared.content.Content.{Content}
use Rattle.tree_types.specs.OfContent.{IsProfile}
use Rattle.view_tables.specs.private.groups.Frames.{AreEnds, IsEnd, parent_at}
use Rattle.view_tables.proofs.EntrySums.{as_many_lists}
use Rattle.view_tables.proofs.Depths.{enclosed_at}
use Rattle.view_tables.proofs.grouping.Ups.{preorder}

-- ---- the test

lt_of : (i n : ℕ) → nat_lt i n ≡ true → i < n
lt_of i n e = grind (arith, nat_tests)

pub child_is : (a n p q : ℕ) → (nat_lt a n && (p == q)) ≡ true → (a < n) × (p ≡ q)
child_is a n p q e = let parts = and_parts (nat_lt a n) (p == q) e in (lt_of a n parts.0, eqb-true p q parts.1)

pub no_child : (a n p q : ℕ) → (nat_lt a n && (p == q)) ≡ false → a < n → p ≡ q → ⊥
no_child a n p q e lt same = true≢false (sym (and_from (nat_lt a n) (p == q) (lt-ltb a n lt) (eq-eqb p q same)) ∙ e)

-- ---- parents

pub parent_less : (c : Content) (j : ℕ) → IsProfile c → j < length c.nodes → parent_at c j < length c.nodes → parent_at c j < j
parent_less c j profile lt up = (preorder c profile).parents j _ lt (λ e. absurd (let few = profile.nodes in omega (arith, few, up, e)))

-- ---- from child to child

-- all up to here are the node and descendants of it; of those after only its own children have parents among them
pub record IsRun (c : Content) (number end : ℕ) : Type 0 where
  pub behind : number < end
  pub within : end ≤ length c.nodes
  pub inside : (j : ℕ) → number < j → j < end → (number ≤ parent_at c j) × (parent_at c j < j)
  pub clear : (j : ℕ) → end ≤ j → j < length c.nodes → parent_at c j < end → parent_at c j ≤ number

pub run_first : (c : Content) (number : ℕ) → number < length c.nodes → IsRun c number (number + 1)
run_first c number lt = record {
  behind = omega arith;
  within = omega arith;
  inside = λ j low high. absurd (omega arith);
  clear = λ j low high up. omega arith;
}

pub run_more : (c : Content) (number end after : ℕ) → IsRun c number end → end < length c.nodes → parent_at c end ≡ number → IsEnd c end after → IsRun c number after
run_more c number end after run lt child next =
    let a = run.behind in
    let b = next.behind in
    record {
      behind = omega (arith, a, b);
      within = next.within;
      inside = λ j low high. elim (cases_lt j end) [
        | inl before ↦ run.inside j low before
        | inr ge ↦ elim (cases_eq j end) [
          | inl same ↦ (let up : parent_at c j ≡ number = ap (parent_at c) same ∙ child in (omega (arith, up), omega (arith, up, low)))
          | inr apart ↦ (let both = next.inside j (omega arith) high in let low_up = both.0 in (omega (arith, a, low_up), both.1))
        ]
      ];
      clear = λ j low high up. run.clear j (omega (arith, b)) high (next.outside j low high up);
    }

pub run_last : (c : Content) (number end : ℕ) → IsProfile c → IsRun c number end → (end < length c.nodes → parent_at c end ≡ number → ⊥) → IsEnd c number end
run_last c number end profile run last = record {
  behind = run.behind;
  within = run.within;
  inside = run.inside;
  outside = λ j low high up. elim (cases_eq (parent_at c j) number) [
    | inl child ↦ absurd (elim (cases_eq j end) [
      | inl same ↦ last (omega (arith, same)) (ap (parent_at c) (sym same) ∙ child)
      | inr apart ↦
          let a = run.behind in
          let here : end < length c.nodes = omega arith in
          let both = enclosed_at c number end j _ profile a (omega arith) high child in
          let least = both.0 in
          let most = run.clear end (omega arith) here both.1 in
          last here (omega (arith, least, most))
    ])
    | inr apart ↦ (let most = run.clear j low high up in omega (arith, most))
  ];
}

pub run_ends : (c : Content) (number end : ℕ) → IsProfile c → IsRun c number end → (nat_lt end (length c.nodes) && (parent_at c end == number)) ≡ false → IsEnd c number end
run_ends c number end profile run e = run_last c number end profile run (no_child end (length c.nodes) (parent_at c end) number e)

pub run_goes_on : (c : Content) (number end after : ℕ) (ends : List ℕ) → IsRun c number end → AreEnds c (number + 1) ends → (nat_lt end (length c.nodes) && (parent_at c end == number)) ≡ true
    → after ≡ get_or ends end 0 → IsRun c number after
run_goes_on c number end after ends run are e is =
    let child = child_is end (length c.nodes) (parent_at c end) number e in
    let a = run.behind in
    run_more c number end after run child.0 child.1 (subst (λ (k : ℕ). IsEnd c end k) (sym is) (are.each end (omega (arith, a)) child.0))

pub run_rises : (c : Content) (number end : ℕ) (ends : List ℕ) → IsRun c number end → AreEnds c (number + 1) ends → (nat_lt end (length c.nodes) && (parent_at c end == number)) ≡ true
    → (end < get_or ends end 0) × (get_or ends end 0 ≤ length c.nodes)
run_rises c number end ends run are e =
    let child = child_is end (length c.nodes) (parent_at c end) number e in
    let a = run.behind in
    let next = are.each end (omega (arith, a)) child.0 in
    (next.behind, next.within)

-- ---- all ends

pub none_yet : (c : Content) (ends : List ℕ) → length ends ≡ length c.nodes → AreEnds c (length c.nodes) ends
none_yet c ends long = record { long = long; each = λ number low lt. absurd (omega arith) }

pub one_more : (c : Content) (number end : ℕ) (ends : List ℕ) → AreEnds c (number + 1) ends → number < length c.nodes → IsEnd c number end → AreEnds c number (set ends number end)
one_more c number end ends are lt is = record {
  long = length-set ends number end ∙ are.long;
  each = λ k low inside. elim (cases_eq k number) [
    | inl same ↦
        let long = are.long in
        subst (λ (m : ℕ). IsEnd c m (get_or (set ends number end) m 0)) (sym same)
        (subst (λ (e : ℕ). IsEnd c number e) (sym (get_or-set_same ends number end 0 (omega (arith, long, lt)))) is)
    | inr apart ↦ subst (λ (e : ℕ). IsEnd c k e) (sym (get_or-set_other ends number k end 0 apart)) (are.each k (omega arith) inside)
  ];
}

pub ruleset end_steps = (run_first, run_ends, run_goes_on, run_rises)

pub ruleset all_steps = (none_yet, one_more, as_many_lists)
