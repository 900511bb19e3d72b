-- A range is opened or closed.
use Rattle.std.proofs.Common.{◌≡◌, ◌≢◌, Bool, true, false, Ordering, Less, Equal, Greater, IsTrue, refl, sym, subst}
use Rattle.std.specs.List.{Contains}
use Rattle.std.specs.BTreeSet.{BTreeSet, contains, Updates}
use Rattle.std.specs.BTreeMap.{is_at}
use Rattle.std.proofs.lemmas.Map.Views.{btree_set_contains_iff}
use Rattle.scope_find.specs.declared.span.Span.{Span}
use Rattle.scope_find.specs.declared.span.Event.{Event}
use Rattle.scope_find.specs.private.Spans.{Takes}
use Rattle.scope_find.proofs.Orders.{span_cmp, span_total, span_tells}

pub listed : (s : BTreeSet Span) (q : Span) → IsTrue (contains span_cmp s q) → Contains s.keys q
listed s q h = (btree_set_contains_iff span_total span_tells s q).0 h

pub found : (s : BTreeSet Span) (q : Span) → Contains s.keys q → IsTrue (contains span_cmp s q)
found s q h = (btree_set_contains_iff span_total span_tells s q).1 h

apart : (a b : Span) → a ≢ b → is_at (span_cmp a) b ≡ false
apart a b ne = go (span_cmp a b) refl
  where
    go : (o : Ordering) → o ≡ span_cmp a b → is_at (λ (q : Span). o) b ≡ false
    go Less e = refl
    go Equal e = absurd (ne (span_tells a b (sym e)))
    go Greater e = refl

keeps : (b : Bool) (e : Event) (n s : BTreeSet Span) → Updates span_cmp s n e.span b → (q : Span) → e.span ≢ q → Contains s.keys q → Contains n.keys q
keeps b e n s up q ne is = listed n q (subst (λ (t : Bool). IsTrue t) (sym (up.2 q (apart e.span q ne))) (found s q is))

adds : (b : Bool) (e : Event) (n s : BTreeSet Span) → Updates span_cmp s n e.span b → (q : Span) → e.span ≢ q → Contains n.keys q → Contains s.keys q
adds b e n s up q ne is = listed s q (subst (λ (t : Bool). IsTrue t) (up.2 q (apart e.span q ne)) (found n q is))

never : IsTrue false → ⊥
never e = cc

pub takes_start : (e : Event) (n s : BTreeSet Span) → e.address ≡ e.span.start → Updates span_cmp s n e.span true → Takes e n.keys s.keys
takes_start e n s at up = record {
  opens = λ _. listed n e.span up.1;
  closes = λ ne _. absurd (ne at);
  keeps = keeps true e n s up;
  adds = adds true e n s up;
}

pub takes_end : (e : Event) (n s : BTreeSet Span) → e.address ≢ e.span.start → Updates span_cmp s n e.span false → Takes e n.keys s.keys
takes_end e n s not up = record {
  opens = λ at. absurd (not at);
  closes = λ _ is. never (subst (λ (t : Bool). IsTrue t) up.1 (found n e.span is));
  keeps = keeps false e n s up;
  adds = adds false e n s up;
}
