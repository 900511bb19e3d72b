-- What each step of walks over several tries does.
use Rattle.std.proofs.Common.{◌≡◌, ℕ, ◌+◌, ◌-◌, ◌<◌, ◌≤◌, ◌≢◌, inl, inr, true, false, cond, List, [], ◌∷◌, ◌++◌, length, get_or, map, take, set, Option, Some, None, IfSome, All, Bor, refl, sym, ap, ap₂, subst, ◌∙◌, arith, length-append, get_or-set_same, get_or-set_other}
use Rattle.std.proofs.lemmas.Bool.{cases_eq}
use Rattle.std.proofs.lemmas.List.{get_or_default, length-set, map-append, take_more}
use Rattle.std.proofs.lemmas.List.Elements.{All-push}
use Rattle.scope_types.specs.declared.path.Entry.{Entry}
use Rattle.scope_types.specs.Limits.{most_scopes_in_all}
use Rattle.tree_types.specs.declared.content.Node.{Node}
use Rattle.path_trie.proofs.Places.{last_cases}
use Rattle.tree_join.specs.declared.walker.Walker.{Walker}
use Rattle.tree_join.specs.private.Walk.{node_before, earlier_of, walked_entries, head_node, Advances, EndsBy, FirstBut, IsWalker, Leads, NotAfter, PassUpTo, Walking}
use Rattle.tree_join.proofs.Heads.{before_itself, before_last, none_earlier}
use Rattle.tree_join.proofs.Several.{entries_in as entries_of, parts_of}
use Rattle.tree_join.proofs.Steps.{leads_other, moved, order_few}

-- ---- the first of the nodes that are next

module _ (walkers : List Walker) (left_out k : ℕ) (w : Walker) (lt : k < length walkers) (apart_k : k ≢ left_out) (is : w ≡ get_or walkers k w) where
  at_k : (d : Walker) → get_or walkers k d ≡ w
  at_k d = get_or_default walkers k d w lt ∙ sym is

  -- what holds of the first k walks but one, and of the next
  each_more : (P : Walker → Type 0) → ((i : ℕ) (d : Walker) → i < k → i ≢ left_out → P (get_or walkers i d)) → P w → (i : ℕ) (d : Walker) → i < k + 1 → i ≢ left_out → P (get_or walkers i d)
  each_more P old own i d i_lt apart =
      elim (last_cases i k i_lt) [
        | inl less ↦ old i d less apart
        | inr at ↦ subst P (sym (ap (λ (j : ℕ). get_or walkers j d) at ∙ at_k d)) own
      ]

  none_after : (n : Node) (v : Walker) → head_node v ≡ None → NotAfter n v
  none_after n v e = subst (λ (o : Option Node). IfSome o (λ h. node_before h n ≡ false)) (sym e) tt

  some_after : (n m : Node) → head_node w ≡ Some m → node_before m n ≡ false → NotAfter n w
  some_after n m e last = subst (λ (o : Option Node). IfSome o (λ h. node_before h n ≡ false)) (sym e) last

  after_earlier : (n m : Node) → node_before n m ≡ true → (v : Walker) → NotAfter m v → NotAfter n v
  after_earlier n m e v = go (head_node v)
    where
      go : (o : Option Node) → IfSome o (λ h. node_before h m ≡ false) → IfSome o (λ h. node_before h n ≡ false)
      go None last = tt
      go (Some h) last = none_earlier h n m e last

  first_by : (first : Option (ℕ × Node)) (o : Option Node) → head_node w ≡ o → FirstBut walkers left_out k first → FirstBut walkers left_out (k + 1) (earlier_of first k o)
  first_by None None e f = each_more (λ v. head_node v ≡ None) f e
  first_by (Some x) None e f = (f.0, f.1, f.2, each_more (NotAfter x.1) f.3 (none_after x.1 w e))
  first_by None (Some n) e f = (lt, apart_k, λ d. ap head_node (at_k d) ∙ e, each_more (NotAfter n) (λ i d i_lt apart. none_after n (get_or walkers i d) (f i d i_lt apart)) (some_after n n e (before_itself n)))
  first_by (Some x) (Some n) e f =
      elim (node_before n x.1) as (λ b. node_before n x.1 ≡ b → FirstBut walkers left_out (k + 1) (cond b (Some (k, n)) (Some x))) [
        | true ↦ λ b. (lt, apart_k, λ d. ap head_node (at_k d) ∙ e, each_more (NotAfter n) (λ i d i_lt apart. after_earlier n x.1 b (get_or walkers i d) (f.3 i d i_lt apart)) (some_after n n e (before_itself n)))
        | false ↦ λ b. (f.0, f.1, f.2, each_more (NotAfter x.1) f.3 (some_after x.1 n e b))
      ] refl

  pub first_more : (first new : Option (ℕ × Node)) (head : Option Node) → FirstBut walkers left_out k first → head ≡ head_node w → new ≡ earlier_of first k head → FirstBut walkers left_out (k + 1) new
  first_more first new head f head_is new_is =
      subst (FirstBut walkers left_out (k + 1)) (sym (new_is ∙ ap (earlier_of first k) head_is)) (first_by first (head_node w) refl f)

pub first_skip : (walkers : List Walker) (left_out k : ℕ) (first new : Option (ℕ × Node)) → FirstBut walkers left_out k first → k ≡ left_out → new ≡ first → FirstBut walkers left_out (k + 1) new
first_skip walkers left_out k first new f is same = subst (FirstBut walkers left_out (k + 1)) (sym same) (skip first f)
  where
    but : (P : Walker → Type 0) → ((i : ℕ) (d : Walker) → i < k → i ≢ left_out → P (get_or walkers i d)) → (i : ℕ) (d : Walker) → i < k + 1 → i ≢ left_out → P (get_or walkers i d)
    but P old i d i_lt apart = elim (last_cases i k i_lt) [ inl less ↦ old i d less apart | inr at ↦ absurd (apart (at ∙ is)) ]

    skip : (first : Option (ℕ × Node)) → FirstBut walkers left_out k first → FirstBut walkers left_out (k + 1) first
    skip None f = but (λ v. head_node v ≡ None) f
    skip (Some x) f = (f.0, f.1, f.2, but (NotAfter x.1) f.3)

-- ---- nodes put in order

some_head : (w : Walker) (n : Node) → head_node w ≡ Some n → head_node w ≢ None
some_head w n e f = (let g = sym e ∙ f in absurd cc)

pub own_put : (parts : List (List Entry)) (old : List Walker) (order more : List Node) (node : Node) (at number : ℕ) (d v : Walker) → Walking parts old order → at < length old → ((d : Walker) → head_node (get_or old at d) ≡ Some node)
    → ((i : ℕ) (d : Walker) → i < length old → i ≢ at → Leads node (get_or old i d)) → number ≡ length order → (head_node (get_or old at d) ≢ None → Advances number (get_or old at d) v) → more ≡ order ++ node ∷ [] → Walking parts (set old at v) more
own_put parts old order more node at number d v is lt next leads number_is advances more_is =
    let w : Walker = get_or old at d in
    let head : head_node w ≡ Some node = next d in
    let on : Advances (length order) w v = subst (λ (n : ℕ). Advances n w v) number_is (advances (some_head w node head)) in
    subst (Walking parts (set old at v)) (sym more_is)
    (moved parts old order is at d lt node head (set old at v) (length-set old at v) (λ i e i_lt.
    elim (cases_eq i at) [
      | inl same ↦
          let was : get_or old i e ≡ w = ap (λ (j : ℕ). get_or old j e) same ∙ get_or_default old at e d lt in
          let new : get_or (set old at v) i e ≡ v = ap (λ (j : ℕ). get_or (set old at v) j e) same ∙ get_or-set_same old at v e lt in
          inl (ap head_node was ∙ head, subst (λ (x : Walker). Advances (length order) x (get_or (set old at v) i e)) (sym was) (subst (Advances (length order) w) (sym new) on))
      | inr apart ↦ inr (get_or-set_other old at i v e apart, leads i e i_lt apart)
    ]))

pub first_put : (parts : List (List Entry)) (old new : List Walker) (order more : List Node) (node : Node) (number : ℕ) → Walking parts old order → (k : ℕ) × (k < length old) × ((d : Walker) → head_node (get_or old k d) ≡ Some node) → All (NotAfter node) old
    → number ≡ length order → PassUpTo (length old) node number old new → more ≡ order ++ node ∷ [] → Walking parts new more
first_put parts old new order more node number is next last number_is passes more_is =
    let pass : PassUpTo (length old) node (length order) old new = subst (λ (n : ℕ). PassUpTo (length old) node n old new) number_is passes in
    subst (Walking parts new) (sym more_is) (by_default old new is next last pass)
  where
    by_default : (old new : List Walker) → Walking parts old order → (k : ℕ) × (k < length old) × ((d : Walker) → head_node (get_or old k d) ≡ Some node) → All (NotAfter node) old → PassUpTo (length old) node (length order) old new → Walking parts new (order ++ node ∷ [])
    by_default [] new is next last pass = (let lt = next.1 in absurd (omega arith))
    by_default (x ∷ old) new is next last pass =
        moved parts (x ∷ old) order is next.0 x next.1 node (next.2 x) new pass.long (λ i d i_lt.
        elim (pass.first i d i_lt i_lt) [
          | inl on ↦ inl on
          | inr off ↦ inr (off.1, leads_other parts (x ∷ old) order is next.0 x next.1 node (next.2 x) i d i_lt off.0 (last i d i_lt))
        ])

-- nodes of one walk that are put in order, while the others stay
pub record Running (at : ℕ) (first : List Walker) (start : List Node) (walkers : List Walker) (order : List Node) : Type 0 where
  pub walking : Walking (map walked_entries first) walkers order
  pub long : length walkers ≡ length first
  pub others : (i : ℕ) (d : Walker) → i ≢ at → get_or walkers i d ≡ get_or first i d
  pub longer : length start ≤ length order

-- what comes before the first of the others' nodes comes before each
pub run_leads : (at : ℕ) (first walkers : List Walker) (start order : List Node) (limit : Option (ℕ × Node)) (node : Node) → Running at first start walkers order → FirstBut first at (length first) limit
    → IfSome limit (λ other. node_before node other.1 ≡ true) → (i : ℕ) (d : Walker) → i < length walkers → i ≢ at → Leads node (get_or walkers i d)
run_leads at first walkers start order limit node run but before i d i_lt apart =
    let lt : i < length first = (let long = run.long in omega arith) in
    subst (Leads node) (sym (run.others i d apart)) (by_limit limit but before lt)
  where
    leads_all : (n : Node) → node_before node n ≡ true → (o : Option Node) → IfSome o (λ h. node_before h n ≡ false) → IfSome o (λ h. node_before node h ≡ true)
    leads_all n b None last = tt
    leads_all n b (Some h) last = before_last node n h b last

    by_limit : (limit : Option (ℕ × Node)) → FirstBut first at (length first) limit → IfSome limit (λ other. node_before node other.1 ≡ true) → i < length first → Leads node (get_or first i d)
    by_limit None but before lt = subst (λ (o : Option Node). IfSome o (λ h. node_before node h ≡ true)) (sym (but i d lt apart)) tt
    by_limit (Some x) but before lt = leads_all x.1 before (head_node (get_or first i d)) (but.3 i d lt apart)

-- where nothing that is next in the walk itself comes before the first of the others' nodes, that one is the first of all
pub run_ended : (at : ℕ) (first walkers : List Walker) (start order : List Node) (limit : Option (ℕ × Node)) → Running at first start walkers order → FirstBut first at (length first) limit
    → (w : Walker) → at < length first → EndsBy limit (get_or walkers at w) → FirstBut walkers (length walkers) (length walkers) limit
run_ended at first walkers start order limit run but w at_lt end =
    by_limit limit but (λ d. subst (EndsBy limit) (get_or_default walkers at w d (let long = run.long in omega arith)) end)
  where
    same_long : length walkers ≡ length first
    same_long = run.long

    by_limit : (limit : Option (ℕ × Node)) → FirstBut first at (length first) limit → ((d : Walker) → EndsBy limit (get_or walkers at d)) → FirstBut walkers (length walkers) (length walkers) limit
    by_limit None but ends = λ i d i_lt apart.
        elim (cases_eq i at) [
          | inl same ↦ subst (λ (j : ℕ). head_node (get_or walkers j d) ≡ None) (sym same) (ends d)
          | inr other ↦ ap head_node (run.others i d other) ∙ but i d (let long = same_long in omega arith) other
        ]
    by_limit (Some x) but ends =
        let long = same_long in
        let lt = but.0 in (
          omega arith,
          λ e. absurd (omega arith),
          λ d. ap head_node (run.others x.0 d but.1) ∙ but.2 d,
          λ i d i_lt apart.
              elim (cases_eq i at) [
                | inl same ↦ subst (λ (j : ℕ). NotAfter x.1 (get_or walkers j d)) (sym same) (ends d)
                | inr other ↦ subst (NotAfter x.1) (sym (run.others i d other)) (but.3 i d (omega arith) other)
              ],
        )

-- fewer nodes are left
pub fewer_left : (parts : List (List Entry)) (new : List Walker) (order more last : List Node) (node : Node) → Walking parts new last → more ≡ order ++ node ∷ [] → length more ≤ length last → most_scopes_in_all - length last < most_scopes_in_all - length order
fewer_left parts new order more last node is more_is longer =
    (let few = order_few parts new last is in let size = ap (λ (x : List Node). length x) more_is ∙ length-append order (node ∷ []) in omega arith)

-- ---- one trie more that is walked over

pub walkers_more : (ws more : List Walker) (w : Walker) (ts : List (Bor (List Entry))) (t : Bor (List Entry)) (k : ℕ) → All (IsWalker []) ws → map walked_entries ws ≡ parts_of (take k ts) → IsWalker [] w → walked_entries w ≡ entries_of t → t ≡ get_or ts k t
    → k < length ts → more ≡ ws ++ w ∷ [] → All (IsWalker []) more × (map walked_entries more ≡ parts_of (take (k + 1) ts))
walkers_more ws more w ts t k each are own entries is lt more_is =
    let next : take (k + 1) ts ≡ take k ts ++ t ∷ [] = take_more ts k t lt ∙ ap (λ (x : Bor (List Entry)). take k ts ++ x ∷ []) (sym is) in (
      subst (All (IsWalker [])) (sym more_is) (All-push (IsWalker []) ws w each own),
      ap (map walked_entries) more_is ∙ map-append walked_entries ws (w ∷ []) ∙ ap₂ (λ (a : List (List Entry)) (b : List Entry). a ++ b ∷ []) are entries
          ∙ sym (ap parts_of next ∙ map-append entries_of (take k ts) (t ∷ [])),
    )
