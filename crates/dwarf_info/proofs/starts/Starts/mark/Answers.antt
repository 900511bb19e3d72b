use Rattle.std.proofs.Common.{◌≡◌, ◌∙◌, ◌<◌, ◌≤◌, ◌+◌, ◌∷◌, [], true, ap, length, arith, refl, length-append}
use Rattle.std.proofs.lemmas.List.{length-set}
use Rattle.dwarf_info.specs.private.Starts.{set_from}
use Rattle.dwarf_info.proofs.SetFlags.{set_few, marked, set_ends}
use Rattle.dwarf_info.proofs.starts.Starts.mark.Goals as goal

pub overflow_add-self : goal.overflow_add-self
overflow_add-self c = let a = c.self.invariant.counted in let b = set_few 0 c.self.inside.flags.items in let f = c.self.invariant.few in omega arith

pub invariant_of-self : goal.invariant_of-self
invariant_of-self c =
    let behind : c.self.inside.end ≤ c.args.offset = rw (← c.self.view_is) at c.requires.behind in
    let inside : c.args.offset < length c.self.inside.flags.items = rw (← c.self.view_is) at c.requires.inside in
    let more = marked 0 c.args.offset c.self.inside.flags.items inside (λ o e. let l = c.self.invariant.ends o e in omega arith) in
    let here : 0 + c.args.offset ≡ c.args.offset = omega arith in
    record {
      counted = let a = c.self.invariant.counted in let l = ap length more ∙ length-append (set_from 0 c.self.inside.flags.items) ((0 + c.args.offset) ∷ []) in omega arith;
      firsts = rw (more, here) (c.list.ensures (set_from 0 c.self.inside.flags.items) c.self.invariant.counted c.self.invariant.firsts);
      ends = set_ends c.self.inside.end c.args.offset c.self.inside.flags.items behind c.self.invariant.ends;
      few = let l = length-set c.self.inside.flags.items c.args.offset true in let f = c.self.invariant.few in omega arith;
    }

pub returns : goal.returns
returns c =
    let behind : c.self.inside.end ≤ c.args.offset = rw (← c.self.view_is) at c.requires.behind in
    let inside : c.args.offset < length c.self.inside.flags.items = rw (← c.self.view_is) at c.requires.inside in
    let more = marked 0 c.args.offset c.self.inside.flags.items inside (λ o e. let l = c.self.invariant.ends o e in omega arith) in
    let here : 0 + c.args.offset ≡ c.args.offset = omega arith in
    rw (← c.self.view_is) (rw (more, here, length-set c.self.inside.flags.items c.args.offset true) refl)
