use Rattle.std.proofs.Common.{◌≡◌, ℕ, ◌+◌, ◌-◌, ◌++◌, ◌∷◌, [], List, length, arith, ap, ◌∙◌, cond, nat_lt, get_or}
use Rattle.tree_types.specs.declared.content.ContextEntry.{ContextEntry}
use Rattle.prof_db.specs.private.EventParts.{event_list}
use Rattle.prof_db.proofs.EventLists.{few_lists, list_more, number_is}
use Rattle.prof_db.proofs.event_planes.put_list.Goals as goal

pub overflow_cast-len : goal.overflow_cast-len
overflow_cast-len c =
    let lists = c.args.contexts.now in
    let old = c.args.lists.now in
    let entries_are : c.put_entries.new.out.items ≡ old.entries.items ++ event_list c.args.columns.events c.args.columns.place (get_or lists c.args.node []) =
    c.in_ok-put_entries.ensures ∙ ap (λ (l : List ContextEntry). old.entries.items ++ event_list c.args.columns.events c.args.columns.place l) c.node.ensures in
    let before : c.len-before.result ≡ length old.entries.items = c.len-before.ensures ∙ old.entries.ok.0 in
    let end : c.len.result ≡ length c.put_entries.new.out.items = c.len.ensures ∙ c.put_entries.new.out.ok.0 in
    let starts_are : c.put_start.new.starts.items ≡ old.starts.items ++ cond (nat_lt (length old.entries.items) (length c.put_entries.new.out.items)) (length c.put_entries.new.out.items ∷ []) [] =
    c.in_ok-put_start.ensures ∙ (λ i. old.starts.items ++ cond (nat_lt (before i) (end i)) (end i ∷ []) []) in
    let is = number_is c.args.columns.events c.args.columns.place lists c.args.node c.requires.node old.starts.items old.numbers.items old.entries.items c.requires.before
    c.put_start.new.starts.items c.put_entries.new.out.items entries_are starts_are in
    let few = few_lists c.args.columns.events c.args.columns.place lists (c.args.node + 1) in
    let long : c.len-2.result ≡ length c.put_start.new.starts.items = c.len-2.ensures ∙ c.put_start.new.starts.ok.0 in
    let small = c.requires.few in
    omega (arith, is, few, long, small)

pub returns : goal.returns
returns c =
    let lists = c.args.contexts.now in
    let old = c.args.lists.now in
    let entries_are : c.put_entries.new.out.items ≡ old.entries.items ++ event_list c.args.columns.events c.args.columns.place (get_or lists c.args.node []) =
    c.in_ok-put_entries.ensures ∙ ap (λ (l : List ContextEntry). old.entries.items ++ event_list c.args.columns.events c.args.columns.place l) c.node.ensures in
    let before : c.len-before.result ≡ length old.entries.items = c.len-before.ensures ∙ old.entries.ok.0 in
    let end : c.len.result ≡ length c.put_entries.new.out.items = c.len.ensures ∙ c.put_entries.new.out.ok.0 in
    let starts_are : c.put_start.new.starts.items ≡ old.starts.items ++ cond (nat_lt (length old.entries.items) (length c.put_entries.new.out.items)) (length c.put_entries.new.out.items ∷ []) [] =
    c.in_ok-put_start.ensures ∙ (λ i. old.starts.items ++ cond (nat_lt (before i) (end i)) (end i ∷ []) []) in
    let long : c.len-2.result ≡ length c.put_start.new.starts.items = c.len-2.ensures ∙ c.put_start.new.starts.ok.0 in
    list_more c.args.columns.events c.args.columns.place lists c.args.node c.requires.node old.starts.items old.numbers.items old.entries.items c.requires.before
    c.put_start.new.starts.items c.put_entries.new.out.items entries_are starts_are c.push.new.self.items
    (c.in_ok-push.ensures.items ∙ ap (λ (n : ℕ). old.numbers.items ++ (n - 1) ∷ []) long)
