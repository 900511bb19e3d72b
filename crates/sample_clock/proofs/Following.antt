-- The samples of instructions that follow one another.
use Rattle.std.proofs.Common.{◌≡◌, ℕ, ◌+◌, ◌%◌, ◌<◌, ◌≤◌, ◌==◌, ◌&&◌, Bool, true, false, cond, List, [], ◌∷◌, ◌++◌, map, filter, refl, sym, ap, ap₂, subst, ◌∙◌, append_assoc, arith}
use Rattle.std.specs.Prelude.{flat_map}
use Rattle.std.specs.List.{AllByRecursion, enumerate_from}
use Rattle.std.proofs.Math.Nat.{add-mod}
use Rattle.std.proofs.lemmas.Bool.{ne_eqb, eq-eqb}
use Rattle.std.proofs.lemmas.Grind.{flat_map-append}
use Rattle.std.proofs.lemmas.List.{append-nil}
use Rattle.std.proofs.lemmas.List.Sums.{sum_by-append, sum_by-cons}
use Rattle.scope_types.specs.declared.event.Event.{Event}
use Rattle.scope_types.specs.declared.event.EventPeriod.{EventPeriod}
use Rattle.rv_run.specs.Run.{Instant}
use Rattle.sample_clock.specs.declared.clock.Sample.{Sample}
use Rattle.sample_clock.specs.Samples.{Earlier, Paths, Placed, count_of, has_event, is_counted, is_sampled, placed, sample_of, sampled_places, samples_after, samples_at}
use Rattle.sample_clock.proofs.Periods.{no-multiple}

-- ---- counts

-- 1 where a test is true
abbrev pub once : Bool → ℕ
once test = cond test 1 0

-- an instruction counts as one where it has the event
abbrev one_if : Event → ℕ → Instant → ℕ
one_if event hart i = once (is_counted event hart i)

pub count-append : (event : Event) (hart : ℕ) (xs ys : List Instant) → count_of event hart (xs ++ ys) ≡ count_of event hart xs + count_of event hart ys
count-append event hart xs ys = sum_by-append (one_if event hart) xs ys

pub count-cons : (event : Event) (hart : ℕ) (i : Instant) (xs : List Instant) → count_of event hart (i ∷ xs) ≡ one_if event hart i + count_of event hart xs
count-cons event hart i xs = sum_by-cons (one_if event hart) i xs

count-snoc : (event : Event) (hart : ℕ) (i : Instant) (b xs : List Instant) → count_of event hart (b ++ i ∷ []) + count_of event hart xs ≡ count_of event hart b + count_of event hart (i ∷ xs)
count-snoc event hart i b xs =
    let first = count-append event hart b (i ∷ []) in
    let one = count-cons event hart i [] in
    let all = count-cons event hart i xs in
    let none : count_of event hart [] ≡ 0 = refl in
    omega (arith, first, one, all, none)

-- ---- instructions after others

pub placed-append : (before xs ys : List Instant) → placed before (xs ++ ys) ≡ placed before xs ++ placed (before ++ xs) ys
unfolding placed
placed-append before [] ys = ap (λ (b : List Instant). placed b ys) (sym (append-nil before))
placed-append before (i ∷ xs) ys =
    ap (λ (rest : List Placed). record { before = before; instant = i } ∷ rest)
    (placed-append (before ++ i ∷ []) xs ys ∙ ap (λ (b : List Instant). placed (before ++ i ∷ []) xs ++ placed b ys) (append_assoc before (i ∷ []) xs))

-- of an event each hart has as many before, but for multiples of the period
abbrev pub Same : Earlier → List Instant → Earlier → List Instant → EventPeriod → Type 0
Same f a g b e = (hart : ℕ) → (f e.event hart + count_of e.event hart a) % e.period ≡ (g e.event hart + count_of e.event hart b) % e.period

pub mod-plus : (m n more period : ℕ) → m % period ≡ n % period → (m + more) % period ≡ (n + more) % period
mod-plus m n more period same = add-mod m more period ∙ ap (λ (k : ℕ). (k + more % period) % period) same ∙ sym (add-mod n more period)

same-more : (f g : Earlier) (a b : List Instant) (i : Instant) (e : EventPeriod) → Same f a g b e → Same f (a ++ i ∷ []) g (b ++ i ∷ []) e
same-more f g a b i e same hart =
    let more : ℕ = count_of e.event hart (i ∷ []) in
    let left : f e.event hart + count_of e.event hart (a ++ i ∷ []) ≡ f e.event hart + count_of e.event hart a + count_of e.event hart (i ∷ []) =
    (let c = count-append e.event hart a (i ∷ []) in omega (arith, c)) in
    let right : g e.event hart + count_of e.event hart (b ++ i ∷ []) ≡ g e.event hart + count_of e.event hart b + count_of e.event hart (i ∷ []) =
    (let c = count-append e.event hart b (i ∷ []) in omega (arith, c)) in
    ap (λ (n : ℕ). n % e.period) left
    ∙ mod-plus (f e.event hart + count_of e.event hart a) (g e.event hart + count_of e.event hart b) (count_of e.event hart (i ∷ [])) e.period (same hart)
    ∙ ap (λ (n : ℕ). n % e.period) (sym right)

sampled-same : (f g : Earlier) (a b : List Instant) (i : Instant) (e : EventPeriod) → Same f a g b e → is_sampled f (record { before = a; instant = i }) e ≡ is_sampled g (record { before = b; instant = i }) e
sampled-same f g a b i e same =
    let hart : ℕ = i.moment.hart in
    ap (λ (n : ℕ). has_event e.event i && (n == 0)) (mod-plus (f e.event hart + count_of e.event hart a) (g e.event hart + count_of e.event hart b) 1 e.period (same hart))

events-same : (f g : Earlier) (a b : List Instant) (i : Instant) (n : ℕ) (events : List EventPeriod) → AllByRecursion (Same f a g b) events
    → filter (λ (e : ℕ × EventPeriod). is_sampled f (record { before = a; instant = i }) e.1) (enumerate_from n events) ≡ filter (λ (e : ℕ × EventPeriod). is_sampled g (record { before = b; instant = i }) e.1) (enumerate_from n events)
events-same f g a b i n [] same = refl
events-same f g a b i n (e ∷ events) same =
    ap₂ (λ (t : Bool) (rest : List (ℕ × EventPeriod)). cond t ((n, e) ∷ rest) rest) (sampled-same f g a b i e same.0) (events-same f g a b i (n + 1) events same.1)

all-more : (f g : Earlier) (a b : List Instant) (i : Instant) (events : List EventPeriod) → AllByRecursion (Same f a g b) events → AllByRecursion (Same f (a ++ i ∷ []) g (b ++ i ∷ [])) events
all-more f g a b i [] same = same
all-more f g a b i (e ∷ events) same = (same-more f g a b i e same.0, all-more f g a b i events same.1)

pub places-same : (f g : Earlier) (a b : List Instant) (i : Instant) (events : List EventPeriod) → AllByRecursion (Same f a g b) events → sampled_places f events (record { before = a; instant = i }) ≡ sampled_places g events (record { before = b; instant = i })
places-same f g a b i events same = ap (map (λ (e : ℕ × EventPeriod). e.0)) (events-same f g a b i 0 events same)

pub after-same : (path_of : Paths) (f g : Earlier) (events : List EventPeriod) (a b xs : List Instant) → AllByRecursion (Same f a g b) events → flat_map (samples_at path_of f events) (placed a xs) ≡ flat_map (samples_at path_of g events) (placed b xs)
unfolding placed
after-same path_of f g events a b [] same = refl
after-same path_of f g events a b (i ∷ xs) same =
    ap₂ (λ (here rest : List Sample). here ++ rest) (ap (map (sample_of path_of i)) (places-same f g a b i events same))
    (after-same path_of f g events (a ++ i ∷ []) (b ++ i ∷ []) xs (all-more f g a b i events same))

-- the samples of some instructions and then of others
pub samples-passed : (path_of : Paths) (f g : Earlier) (events : List EventPeriod) (xs ys : List Instant) → AllByRecursion (Same f xs g []) events → samples_after path_of f events (xs ++ ys) ≡ samples_after path_of f events xs ++ samples_after path_of g events ys
samples-passed path_of f g events xs ys same =
    ap (flat_map (samples_at path_of f events)) (placed-append [] xs ys)
    ∙ flat_map-append (samples_at path_of f events) (placed [] xs) (placed xs ys)
    ∙ ap (λ (rest : List Sample). flat_map (samples_at path_of f events) (placed [] xs) ++ rest) (after-same path_of f g events xs [] ys same)

-- ---- instructions of which none is sampled

-- an event of which a hart has fewer instructions than it lacks until the next that is sampled
pub record HasRoom (f : Earlier) (hart : ℕ) (before all : List Instant) (e : EventPeriod) : Type 0 where
  pub gap : ℕ
  pub multiple : (f e.event hart + gap) % e.period ≡ 0
  pub few : gap ≤ e.period
  pub room : count_of e.event hart before + count_of e.event hart all < gap

room-more : (f : Earlier) (hart : ℕ) (b xs : List Instant) (i : Instant) (e : EventPeriod) → HasRoom f hart b (i ∷ xs) e → HasRoom f hart (b ++ i ∷ []) xs e
room-more f hart b xs i e has = record {
  gap = has.gap;
  multiple = has.multiple;
  few = has.few;
  room = (let same = count-snoc e.event hart i b xs in let room = has.room in omega (arith, same, room));
}

all-room-more : (f : Earlier) (hart : ℕ) (b xs : List Instant) (i : Instant) (events : List EventPeriod) → AllByRecursion (HasRoom f hart b (i ∷ xs)) events → AllByRecursion (HasRoom f hart (b ++ i ∷ []) xs) events
all-room-more f hart b xs i [] has = has
all-room-more f hart b xs i (e ∷ events) has = (room-more f hart b xs i e has.0, all-room-more f hart b xs i events has.1)

not-sampled : (f : Earlier) (b xs : List Instant) (i : Instant) (e : EventPeriod) → HasRoom f i.moment.hart b (i ∷ xs) e → is_sampled f (record { before = b; instant = i }) e ≡ false
not-sampled f b xs i e has = by_case (has_event e.event i) refl
  where
    hart : ℕ
    hart = i.moment.hart

    by_case : (t : Bool) → has_event e.event i ≡ t → is_sampled f (record { before = b; instant = i }) e ≡ false
    by_case false is = ap (λ (t : Bool). t && ((f e.event hart + count_of e.event hart b + 1) % e.period == 0)) is
    by_case true is =
        let one : once (is_counted e.event hart i) ≡ once true = ap₂ (λ (s t : Bool). once (s && t)) (eq-eqb hart hart refl) is in
        let all : count_of e.event hart (i ∷ xs) ≡ once (is_counted e.event hart i) + count_of e.event hart xs = count-cons e.event hart i xs in
        let room = has.room in
        let few = has.few in
        ap₂ (λ (s t : Bool). s && t) is
        (ne_eqb ((f e.event hart + count_of e.event hart b + 1) % e.period) 0
        (no-multiple e.period (f e.event hart + has.gap) (f e.event hart + count_of e.event hart b + 1) has.multiple (omega (arith, one, all, room)) (omega (arith, few))))

none-sampled : (f : Earlier) (b xs : List Instant) (i : Instant) (n : ℕ) (events : List EventPeriod) → AllByRecursion (HasRoom f i.moment.hart b (i ∷ xs)) events
    → filter (λ (e : ℕ × EventPeriod). is_sampled f (record { before = b; instant = i }) e.1) (enumerate_from n events) ≡ []
none-sampled f b xs i n [] has = refl
none-sampled f b xs i n (e ∷ events) has =
    ap₂ (λ (t : Bool) (rest : List (ℕ × EventPeriod)). cond t ((n, e) ∷ rest) rest) (not-sampled f b xs i e has.0) (none-sampled f b xs i (n + 1) events has.1)

none-after : (path_of : Paths) (f : Earlier) (events : List EventPeriod) (hart : ℕ) (b xs : List Instant) → AllByRecursion (HasRoom f hart b xs) events → AllByRecursion (λ i. i.moment.hart ≡ hart) xs → flat_map (samples_at path_of f events) (placed b xs) ≡ []
unfolding placed
none-after path_of f events hart b [] has own = refl
none-after path_of f events hart b (i ∷ xs) has own =
    ap₂ (λ (here : List (ℕ × EventPeriod)) (rest : List Sample). map (sample_of path_of i) (map (λ (e : ℕ × EventPeriod). e.0) here) ++ rest)
    (none-sampled f b xs i 0 events (subst (λ (h : ℕ). AllByRecursion (HasRoom f h b (i ∷ xs)) events) (sym own.0) has))
    (none-after path_of f events hart (b ++ i ∷ []) xs (all-room-more f hart b xs i events has) own.1)

pub none-passed : (path_of : Paths) (f : Earlier) (events : List EventPeriod) (hart : ℕ) (xs : List Instant) → AllByRecursion (HasRoom f hart [] xs) events → AllByRecursion (λ i. i.moment.hart ≡ hart) xs → samples_after path_of f events xs ≡ []
none-passed path_of f events hart xs has own = none-after path_of f events hart [] xs has own
