-- What is open after some events is what is open at the addresses up to the next.
use Rattle.std.proofs.Common.{◌≡◌, ◌≢◌, ◌⊎◌, ℕ, ◌<◌, ◌≤◌, Ordering, Less, Equal, Greater, List, [], ◌∷◌, ◌++◌, refl, sym, ap, ◌∙◌, subst, inl, inr, arith}
use Rattle.std.specs.List.{Contains}
use Rattle.std.proofs.lemmas.Bool.{cases_lt}
use Rattle.std.proofs.lemmas.List.Elements.{Contains-append_left, Contains-append_cases, Contains-push, Contains-push_cases}
use Rattle.dwarf_inline.specs.Structure.{ProgramStructure}
use Rattle.scope_find.specs.declared.span.Span.{Span}
use Rattle.scope_find.specs.declared.span.Event.{Event}
use Rattle.scope_find.specs.private.Spans.{starting, ending, AreEventsOf, AreSpans, Takes, IsOpenAfter, IsOpenAt}
use Rattle.scope_find.specs.private.Intervals.{AreAbove}
use Rattle.scope_find.proofs.Orders.{span_cmp, span_total, span_tells}
use Rattle.std.proofs.lemmas.Cmp.{tied_itself}

-- ---- two spans are the same or not

pub decide : (a b : Span) → (a ≡ b) ⊎ (a ≢ b)
decide a b = go (span_cmp a b) refl
  where
    less : Less ≡ Equal → ⊥
    less e = cc

    greater : Greater ≡ Equal → ⊥
    greater e = cc

    tied : (x : Span) → span_cmp x x ≡ Equal
    tied x = tied_itself span_total x

    itself : (o : Ordering) → o ≡ span_cmp a b → a ≡ b → span_cmp b b ≡ o
    itself o e same = sym (e ∙ ap (λ (x : Span). span_cmp x b) same)

    go : (o : Ordering) → o ≡ span_cmp a b → (a ≡ b) ⊎ (a ≢ b)
    go Equal e = inl (span_tells a b (sym e))
    go Less e = inr (λ same. less (sym (itself Less e same) ∙ tied b))
    go Greater e = inr (λ same. greater (sym (itself Greater e same) ∙ tied b))

-- ---- events

start_event : (e : Event) (q : Span) → e.span ≡ q → e.address ≡ e.span.start → e ≡ starting q
start_event e q same at = λ i. record { address = (at ∙ ap (λ (x : Span). x.start) same) i; span = same i }

end_event : (e : Event) (q : Span) → e.span ≡ q → e.address ≡ e.span.end → e ≡ ending q
end_event e q same at = λ i. record { address = (at ∙ ap (λ (x : Span). x.end) same) i; span = same i }

is_start : (e : Event) (q : Span) → e ≡ starting q → (e.span ≡ q) × (e.address ≡ e.span.start)
is_start e q is = (ap (λ (x : Event). x.span) is, ap (λ (x : Event). x.address) is ∙ sym (ap (λ (x : Event). x.span.start) is))

is_end : (e : Event) (q : Span) → e ≡ ending q → (e.span ≡ q) × (e.address ≡ e.span.end)
is_end e q is = (ap (λ (x : Event). x.span) is, ap (λ (x : Event). x.address) is ∙ sym (ap (λ (x : Event). x.span.end) is))

apart : (e : Event) → e.span.start < e.span.end → e.address ≡ e.span.end → e.address ≢ e.span.start
apart e some at same = let a : e.address ≡ e.span.end = at in let b : e.address ≡ e.span.start = same in omega arith

-- an event that is taken
pub record IsNextEvent (s : ProgramStructure) (taken : List Event) (e : Event) : Type 0 where
  pub some : e.span.start < e.span.end
  pub place : (e.address ≡ e.span.start) ⊎ (e.address ≡ e.span.end)
  pub sorted : (x : Event) → Contains taken x → x.address ≤ e.address

module _ (s : ProgramStructure) (taken : List Event) (e : Event) (next : IsNextEvent s taken e) (before held : List Span) (open_before : IsOpenAfter taken before) (takes : Takes e held before) where
  at_start : e.address ≢ e.span.end → e.address ≡ e.span.start
  at_start ne = elim next.place [ inl at ↦ at | inr at ↦ absurd (ne at) ]

  -- where the range of the event is open, it has just started
  is_starting : Contains held e.span → e.address ≡ e.span.start
  is_starting is = at_start (λ at. takes.closes (apart e next.some at) is)

  started : (q : Span) → Contains held q → Contains (taken ++ e ∷ []) (starting q)
  started q is = elim (decide e.span q) [
    | inr ne ↦ Contains-append_left taken (e ∷ []) (starting q) (open_before.started q (takes.adds q ne is))
    | inl same ↦ subst (λ (x : Event). Contains (taken ++ e ∷ []) x) (start_event e q same (is_starting (subst (λ (x : Span). Contains held x) (sym same) is))) (Contains-push taken e)
  ]

  ends_later : (q : Span) → e.span ≡ q → e.address ≡ e.span.start → Contains taken (ending q) → ⊥
  ends_later q same at has =
      let le : q.end ≤ e.address = next.sorted (ending q) has in
      let some : q.start < q.end = subst (λ (x : Span). x.start < x.end) same next.some in
      let a : e.address ≡ q.start = at ∙ ap (λ (x : Span). x.start) same in
      omega arith

  lasting : (q : Span) → Contains held q → Contains (taken ++ e ∷ []) (ending q) → ⊥
  lasting q is has = elim (Contains-push_cases taken e (ending q) has) [
    | inl old ↦
        elim (decide e.span q) [
          | inr ne ↦ open_before.lasting q (takes.adds q ne is) old
          | inl same ↦ ends_later q same (is_starting (subst (λ (x : Span). Contains held x) (sym same) is)) old
        ]
    | inr new ↦
        (let h = is_end e q new in
        takes.closes (apart e next.some h.1) (subst (λ (x : Span). Contains held x) (sym h.0) is))
  ]

  all : (q : Span) → Contains (taken ++ e ∷ []) (starting q) → (Contains (taken ++ e ∷ []) (ending q) → ⊥) → Contains held q
  all q has lasts = elim (decide e.span q) [
    | inr ne ↦ takes.keeps q ne (open_before.all q (old ne (Contains-push_cases taken e (starting q) has)) (λ ended. lasts (Contains-append_left taken (e ∷ []) (ending q) ended)))
    | inl same ↦
        subst (λ (x : Span). Contains held x) same
        (takes.opens (at_start (λ at. lasts (subst (λ (x : Event). Contains (taken ++ e ∷ []) x) (end_event e q same at) (Contains-push taken e)))))
  ]
    where
      old : e.span ≢ q → Contains taken (starting q) ⊎ (e ≡ starting q) → Contains taken (starting q)
      old ne (inl is) = is
      old ne (inr is) = absurd (ne (is_start e q is).0)

  pub open_more : IsOpenAfter (taken ++ e ∷ []) held
  open_more = record { started = started; lasting = lasting; all = all }

-- ---- at an address

module _ (s : ProgramStructure) (events : List Event) (are : AreEventsOf s events) (front back : List Event) (whole : front ++ back ≡ events) (held : List Span) (after : IsOpenAfter front held) where
  in_all : (e : Event) → Contains front e → Contains events e
  in_all e has = subst (λ (es : List Event). Contains es e) whole (Contains-append_left front back e has)

  pub spans_after : AreSpans s held
  spans_after q is = are.spans (starting q) (in_all (starting q) (after.started q is))

  in_front : (e : Event) (address : ℕ) → AreAbove back address → e.address ≤ address → Contains events e → Contains front e
  in_front e address above le has = elim (Contains-append_cases front back e (subst (λ (es : List Event). Contains es e) (sym whole) has)) [
    | inl is ↦ is
    | inr is ↦ absurd (let lt : address < e.address = above e is in omega arith)
  ]

  pub open_at : (address : ℕ) → ((e : Event) → Contains front e → e.address ≤ address) → AreAbove back address → IsOpenAt s held address
  open_at address below above = record {
    spans = spans_after;
    from = λ q is. below (starting q) (after.started q is);
    to = λ q is. not_ended q is;
    all = λ q is low high.
        after.all q (in_front (starting q) address above low (are.starts q is)) (λ ended. (let le : q.end ≤ address = below (ending q) ended in absurd_le q.end address high le));
  }
    where
      absurd_le : (m n : ℕ) → n < m → m ≤ n → ⊥
      absurd_le m n lt le = omega arith

      not_ended : (q : Span) → Contains held q → address < q.end
      not_ended q is = elim (cases_lt address q.end) [
        | inl lt ↦ lt
        | inr le ↦ absurd (after.lasting q is (in_front (ending q) address above le (are.ends q (spans_after q is))))
      ]
