-- The procedure at a depth of a call path, a scope at a time.
use Rattle.std.proofs.Common.{◌≡◌, ℕ, zero, suc, ◌+◌, ◌-◌, ◌<◌, ◌≤◌, List, [], ◌∷◌, ◌++◌, length, map, take, fold, get_or, refl, sym, ap, ◌∙◌, arith, append-nil}
use Rattle.std.specs.Prelude.{max}
use Rattle.std.proofs.lemmas.List.{length-append, map-append, take_all, take_more}
use Rattle.std.proofs.lemmas.List.Concat.{flat_map-append}
use Rattle.scope_types.specs.declared.scope.ProcId.{ProcId}
use Rattle.scope_types.specs.declared.scope.ProcId.TheVariants.{Nameless}
use Rattle.scope_types.specs.declared.scope.Scope.{Scope}
use Rattle.scope_types.specs.declared.scope.Scope.TheVariants.{Root, Proc, Inline, Call, Stmt}
use Rattle.trace_lines.specs.Timeline.{frame_procs, last_or, proc_at_depth, procs_in, span_of}
use Rattle.trace_lines.specs.Traces.{HartTrace, hart_in, idle_hart}

-- ---- procedures

pub procs_more : (scopes : List Scope) (i : ℕ) (scope : Scope) → i < length scopes → scope ≡ get_or scopes i scope → procs_in (take (i + 1) scopes) ≡ procs_in (take i scopes) ++ frame_procs scope
procs_more scopes i scope within is =
    ap procs_in (take_more scopes i scope within) ∙ flat_map-append frame_procs (take i scopes) (get_or scopes i scope ∷ [])
    ∙ ap (λ (l : List ProcId). procs_in (take i scopes) ++ l) (append-nil (frame_procs (get_or scopes i scope)) ∙ ap frame_procs (sym is))

last_added : (id p : ProcId) (ps : List ProcId) → last_or id (ps ++ p ∷ []) ≡ p
last_added id p [] = refl
last_added id p (q ∷ ps) = last_added q p ps

take_front : {X : Type 0} (n : ℕ) (xs ys : List X) → n ≤ length xs → take n (xs ++ ys) ≡ take n xs
take_front zero xs ys few = refl
take_front (suc n) [] ys few = absurd (omega (arith, few))
take_front (suc n) (x ∷ xs) ys few = ap (λ l. x ∷ l) (take_front n xs ys (omega (arith, few)))

-- one procedure more, which is within the depth
pub last_within : (depth : ℕ) (id p : ProcId) (ps : List ProcId) → length ps < depth → last_or id (take depth (ps ++ p ∷ [])) ≡ p
last_within depth id p ps room =
    let many = length-append ps (p ∷ []) in
    ap (last_or id) (take_all depth (ps ++ p ∷ []) (omega (arith, many, room))) ∙ last_added id p ps

-- or beyond it
pub last_beyond : (depth : ℕ) (id p : ProcId) (ps : List ProcId) → depth ≤ length ps → last_or id (take depth (ps ++ p ∷ [])) ≡ last_or id (take depth ps)
last_beyond depth id p ps none = ap (last_or id) (take_front depth ps (p ∷ []) none)

-- ---- the procedure at a depth, a scope at a time

-- what is known after a scope more
pub record IsAtDepth (depth i : ℕ) (scopes : List Scope) (proc : ProcId) (left : ℕ) : Type 0 where
  pub proc_is : proc ≡ proc_at_depth depth (take i scopes)
  pub left_is : left ≡ depth - length (procs_in (take i scopes))

pub depth_within : (depth i : ℕ) (scopes : List Scope) (id : ProcId) (left : ℕ) → i < length scopes → Proc id ≡ get_or scopes i (Proc id) → left ≡ depth - length (procs_in (take i scopes)) → 0 < left → IsAtDepth depth (i + 1) scopes id (left - 1)
depth_within depth i scopes id left less is left_is some =
    let ps : List ProcId = procs_in (take i scopes) in
    let more : procs_in (take (i + 1) scopes) ≡ ps ++ id ∷ [] = procs_more scopes i (Proc id) less is in
    let long = length-append ps (id ∷ []) in
    let many = ap (λ (l : List ProcId). length l) more in
    record {
      proc_is = sym (ap (λ (l : List ProcId). last_or Nameless (take depth l)) more ∙ last_within depth Nameless id ps (omega (arith, left_is, some)));
      left_is = omega (arith, left_is, long, many, some);
    }

pub depth_beyond : (depth i : ℕ) (scopes : List Scope) (id proc : ProcId) (left : ℕ) → i < length scopes → Proc id ≡ get_or scopes i (Proc id) → proc ≡ proc_at_depth depth (take i scopes)
    → left ≡ depth - length (procs_in (take i scopes)) → left ≤ 0 → IsAtDepth depth (i + 1) scopes proc left
depth_beyond depth i scopes id proc left less is proc_is left_is none =
    let ps : List ProcId = procs_in (take i scopes) in
    let more : procs_in (take (i + 1) scopes) ≡ ps ++ id ∷ [] = procs_more scopes i (Proc id) less is in
    let long = length-append ps (id ∷ []) in
    let many = ap (λ (l : List ProcId). length l) more in
    record {
      proc_is = proc_is ∙ sym (ap (λ (l : List ProcId). last_or Nameless (take depth l)) more ∙ last_beyond depth Nameless id ps (omega (arith, left_is, none)));
      left_is = omega (arith, left_is, long, many, none);
    }

pub depth_other : (depth i : ℕ) (scopes : List Scope) (scope : Scope) (proc : ProcId) (left : ℕ) → i < length scopes → scope ≡ get_or scopes i scope → frame_procs scope ≡ [] → proc ≡ proc_at_depth depth (take i scopes)
    → left ≡ depth - length (procs_in (take i scopes)) → IsAtDepth depth (i + 1) scopes proc left
depth_other depth i scopes scope proc left less is no_proc proc_is left_is =
    let ps : List ProcId = procs_in (take i scopes) in
    let same : procs_in (take (i + 1) scopes) ≡ ps = procs_more scopes i scope less is ∙ ap (λ (l : List ProcId). ps ++ l) no_proc ∙ append-nil ps in
    record {
      proc_is = proc_is ∙ sym (ap (λ (l : List ProcId). last_or Nameless (take depth l)) same);
      left_is = left_is ∙ sym (ap (λ (l : List ProcId). depth - length l) same);
    }

pub not_a_proc : (scope : Scope) → ((id : ProcId) → scope ≡ Proc id → ⊥) → frame_procs scope ≡ []
not_a_proc (Proc id) other = absurd (other id refl)
not_a_proc (Root kind) other = refl
not_a_proc (Inline callee call) other = refl
not_a_proc (Call line) other = refl
not_a_proc (Stmt line) other = refl

-- ---- the span

max_more : (start last : ℕ) (ns : List ℕ) → fold max start (ns ++ last ∷ []) ≡ max (fold max start ns) last
max_more start last [] = refl
max_more start last (n ∷ ns) = max_more (max start n) last ns

pub span_more : (harts : List HartTrace) (i : ℕ) → i < length harts → span_of (take (i + 1) harts) ≡ max (span_of (take i harts)) (hart_in harts i).retired
span_more harts i within =
    ap span_of (take_more harts i idle_hart within)
    ∙ ap (fold max 0) (map-append (λ h. h.retired) (take i harts) (get_or harts i idle_hart ∷ []))
    ∙ max_more 0 (hart_in harts i).retired (map (λ h. h.retired) (take i harts))
