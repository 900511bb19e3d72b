-- Steps that follow one another.
use Rattle.std.proofs.Common.{◌≡◌, ℕ, zero, suc, ◌+◌, ◌-◌, ◌<◌, ◌≤◌, inl, inr, true, Option, Some, None, option_map, Result, Ok, Err, IfOk, OnErr, refl, sym, ap, ap₂, subst, ◌∙◌, arith}
use Rattle.std.proofs.lemmas.Bool.Decides.{leb_tells}
use Rattle.prof_bytes.specs.declared.fail.Memory.{Memory}
use Rattle.rv_table.specs.declared.inst.Inst.{Inst}
use Rattle.rv_table.specs.Table.{decoded}
use Rattle.rv_hart.specs.declared.outcome.Stepped.{Stepped}
use Rattle.rv_hart.specs.declared.outcome.Stepped.TheVariants as stepped
use Rattle.rv_hart.specs.Running.{after_steps, Ran}
use Rattle.rv_hart.specs.Step.{State, step_of, fetched, after_fetch, carried_out, is_store, word_is_store, StoresNow}

pub ran-none : (s : State) → Ran 0 s s
unfolding after_steps
ran-none s = record { state = refl; retired = λ k few. absurd (omega arith) }

after-more : (count : ℕ) (s : State) → after_steps (count + 1) s ≡ (step_of (after_steps count s)).0
unfolding after_steps
after-more count s = ap (λ n. after_steps n s) (let e : count + 1 ≡ suc count = omega arith in e)

-- one more instruction that retired
pub ran-more : (count : ℕ) (s t u : State) (how : Stepped) → Ran count s t → (u, how) ≡ step_of t → how ≡ stepped.Retired → Ran (count + 1) s u
ran-more count s t u how was is retires =
    record {
      state = ap (λ (q : State × Stepped). q.0) is ∙ ap (λ (x : State). (step_of x).0) was.state ∙ sym (after-more count s);
      retired = λ k few.
          elim (leb_tells (suc k) count) [
            | inl before ↦ was.retired k before.1
            | inr last ↦
                let same : k ≡ count = omega (arith, last.1) in
                ap (λ (j : ℕ). (step_of (after_steps j s)).1) same
                ∙ ap (λ (x : State). (step_of x).1) (sym was.state)
                ∙ sym (ap (λ (q : State × Stepped). q.1) is)
                ∙ retires
          ];
    }

-- one that retired
pub ran-step : (s t : State) → (t, stepped.Retired) ≡ step_of s → Ran 1 s t
ran-step s t is = ran-more 0 s s t stepped.Retired (ran-none s) is refl

-- the same by how many are left of the most
pub ran-start : (most : ℕ) (s : State) → Ran (most - most) s s
ran-start most s = subst (λ (n : ℕ). Ran n s s) (let e : 0 ≡ most - most = omega arith in e) (ran-none s)

pub ran-next : (most left : ℕ) (s t u : State) (how : Stepped) → 0 < left → left ≤ most → Ran (most - left) s t → (u, how) ≡ step_of t → how ≡ stepped.Retired → Ran (most - (left - 1)) s u
ran-next most left s t u how some few was is retires =
    subst (λ (n : ℕ). Ran n s u) (let e : most - left + 1 ≡ most - (left - 1) = omega arith in e) (ran-more (most - left) s t u how was is retires)

pub after-twice : (m n : ℕ) (s : State) → after_steps (m + n) s ≡ after_steps n (after_steps m s)
unfolding after_steps
after-twice m zero s = ap (λ (j : ℕ). after_steps j s) (let e : m + 0 ≡ m = omega arith in e)
after-twice m (suc n) s =
    ap (λ (j : ℕ). after_steps j s) (let e : m + suc n ≡ suc (m + n) = omega arith in e)
    ∙ ap (λ (x : State). (step_of x).0) (after-twice m n s)

-- runs that follow one another
pub ran-twice : (m n : ℕ) (s t u : State) → Ran m s t → Ran n t u → Ran (m + n) s u
ran-twice m n s t u first second =
    record {
      state = second.state ∙ ap (after_steps n) first.state ∙ sym (after-twice m n s);
      retired = λ k few.
          elim (leb_tells (suc k) m) [
            | inl before ↦ first.retired k before.1
            | inr behind ↦
                ap (λ (j : ℕ). (step_of (after_steps j s)).1) (let e : k ≡ m + (k - m) = omega (arith, behind.1) in e)
                ∙ ap (λ (x : State). (step_of x).1) (after-twice m (k - m) s)
                ∙ ap (λ (x : State). (step_of (after_steps (k - m) x)).1) (sym first.state)
                ∙ second.retired (k - m) (omega (arith, behind.1, few))
          ];
    }

by-word : (word : Option ℕ) (s : State) (inst : Inst) → option_map decoded word ≡ Some inst → after_fetch word s ≡ carried_out inst s
by-word None s inst is = absurd cc
by-word (Some word) s inst is = let same : decoded word ≡ inst = cc in ap (λ (i : Inst). carried_out i s) same

-- a step whose instruction is known
pub kept-step : (s : State) (inst : Inst) → option_map decoded (fetched s) ≡ Some inst → step_of s ≡ carried_out inst s
kept-step s inst is = by-word (fetched s) s inst is

store-word : (word : Option ℕ) (inst : Inst) → option_map decoded word ≡ Some inst → is_store inst.op ≡ true → word_is_store word ≡ true
store-word None inst is stores = absurd cc
store-word (Some word) inst is stores = let same : decoded word ≡ inst = cc in ap (λ (i : Inst). is_store i.op) same ∙ stores

pub kept-stores : (s : State) (inst : Inst) → option_map decoded (fetched s) ≡ Some inst → is_store inst.op ≡ true → (carried_out inst s).1 ≡ stepped.Retired → StoresNow s
kept-stores s inst is stores retires =
    record {
      store = store-word (fetched s) inst is stores;
      retires = ap (λ (q : State × Stepped). q.1) (kept-step s inst is) ∙ retires;
    }

ran-zero : (count : ℕ) (s t : State) → count < 1 → Ran count s t → t ≡ s
unfolding after_steps
ran-zero count s t none ran = ran.state ∙ ap (λ (j : ℕ). after_steps j s) (let e : count ≡ 0 = omega arith in e)

pub ran-one : (count : ℕ) (s t : State) → count ≡ 1 → Ran count s t → (t, stepped.Retired) ≡ step_of s
unfolding after_steps
ran-one count s t one ran =
    let state : t ≡ (step_of s).0 = ran.state ∙ ap (λ (j : ℕ). after_steps j s) one in
    let retired : (step_of s).1 ≡ stepped.Retired = ran.retired 0 (omega (arith, one)) in
    ap₂ (λ (u : State) (how : Stepped). let q : State × Stepped = (u, how) in q) state (sym retired)

-- the one step of a run of one instruction at most
pub step-ok : (count : ℕ) (s t : State) (last : Result Stepped Memory) → count ≤ 1 → Ran count s t → (last ≡ Ok stepped.Retired → 0 < count) → IfOk last (λ how. ¬ (how ≡ stepped.Retired) → (t, how) ≡ step_of t)
    → IfOk last (λ how. ¬ (how ≡ stepped.Retired) → count < 1) → IfOk last (λ how. (t, how) ≡ step_of s)
step-ok count s t (Ok stepped.Retired) few ran some ends early = let one : 0 < count = some refl in ran-one count s t (omega arith) ran
step-ok count s t (Ok stepped.Ecall) few ran some ends early =
    let other : stepped.Ecall ≡ stepped.Retired → ⊥ = λ e. absurd cc in
    ends other ∙ ap step_of (ran-zero count s t (early other) ran)
step-ok count s t (Ok stepped.Break) few ran some ends early =
    let other : stepped.Break ≡ stepped.Retired → ⊥ = λ e. absurd cc in
    ends other ∙ ap step_of (ran-zero count s t (early other) ran)
step-ok count s t (Ok (stepped.Trap why)) few ran some ends early =
    let other : stepped.Trap why ≡ stepped.Retired → ⊥ = λ e. absurd cc in
    ends other ∙ ap step_of (ran-zero count s t (early other) ran)
step-ok count s t (Err error) few ran some ends early = tt

pub step-err : (count : ℕ) (s t : State) (last : Result Stepped Memory) → Ran count s t → OnErr last (count < 1) → OnErr last (t ≡ s)
step-err count s t (Ok how) ran short = tt
step-err count s t (Err error) ran short = ran-zero count s t short ran

pub step-memory : (count : ℕ) (s t : State) (last : Result Stepped Memory) → Ran count s t → OnErr last (count < 1) → OnErr last (StoresNow t) → OnErr last (StoresNow s)
step-memory count s t (Ok how) ran short stores = tt
step-memory count s t (Err error) ran short stores = subst StoresNow (ran-zero count s t short ran) stores
