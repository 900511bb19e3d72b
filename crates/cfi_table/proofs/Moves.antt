-- Each instruction takes at least one byte, and leaves the bytes as they are.
use Rattle.std.proofs.Common.{◌≡◌, ℕ, ◌+◌, ◌≤◌, ◌<◌, Bool, true, false, cond, List, length, Option, Some, None, Ok, Err, refl, subst, ◌∙◌, arith}
use Rattle.std.specs.Prelude.{IfOk, ◌==◌, nat_lt}
use Rattle.prof_bytes.specs.Outcome.{◌>>=◌}
use Rattle.prof_bytes.specs.Reading.{left_of, bytes_at}
use Rattle.prof_bytes.specs.Number.{number_at, number_in}
use Rattle.prof_bytes.specs.Leb.{uleb_at, sleb_at}
use Rattle.prof_bytes.specs.Fields.{Input, taken, number_from, uleb_from, sleb_from, bytes_from}
use Rattle.cfi_table.specs.declared.fault.FrameFault.{FrameFault}
use Rattle.cfi_table.specs.declared.constants.TheConstants.{DW_CFA_advance_loc, DW_CFA_offset, DW_CFA_restore, DW_CFA_nop}
use Rattle.cfi_table.specs.declared.constants.TheConstants.{DW_CFA_set_loc, DW_CFA_advance_loc1, DW_CFA_advance_loc2, DW_CFA_advance_loc4}
use Rattle.cfi_table.specs.declared.constants.TheConstants.{DW_CFA_offset_extended, DW_CFA_restore_extended, DW_CFA_undefined}
use Rattle.cfi_table.specs.declared.constants.TheConstants.{DW_CFA_same_value, DW_CFA_register, DW_CFA_remember_state}
use Rattle.cfi_table.specs.declared.constants.TheConstants.{DW_CFA_restore_state, DW_CFA_def_cfa, DW_CFA_def_cfa_register}
use Rattle.cfi_table.specs.declared.constants.TheConstants.{DW_CFA_def_cfa_offset, DW_CFA_def_cfa_expression, DW_CFA_expression}
use Rattle.cfi_table.specs.declared.constants.TheConstants.{DW_CFA_offset_extended_sf, DW_CFA_def_cfa_sf, DW_CFA_def_cfa_offset_sf}
use Rattle.cfi_table.specs.declared.constants.TheConstants.{DW_CFA_val_offset, DW_CFA_val_offset_sf}
use Rattle.cfi_table.specs.declared.constants.TheConstants.{DW_CFA_GNU_args_size}
use Rattle.cfi_table.specs.declared.instruction.CallFrameInstruction.{CallFrameInstruction}
use Rattle.cfi_table.specs.declared.instruction.AlignmentFactors.{AlignmentFactors}
use Rattle.cfi_table.specs.Instructions.{Reading, offset_from, factored_from, factored_sf_from, block_from, cfa_from, rule_from, is_rule}
use Rattle.cfi_table.specs.Instructions.{register_rule_from, extended_from, primary_opcode, primary_operand, instruction_after_opcode, instruction_from}

pub record Moves (before after : Input FrameFault) : Type 0 where
  pub whole : after.at.whole ≡ before.at.whole
  pub offset : before.at.offset ≤ after.at.offset

abbrev pub AllMove : {X : Type 0} → Input FrameFault → Reading X → Type 0
AllMove input r = IfOk r (λ x. Moves input x.1)

pub stays : (input : Input FrameFault) → Moves input input
stays input = record { whole = refl; offset = omega arith }

on : (a b c : Input FrameFault) → Moves a b → Moves b c → Moves a c
on a b c p q = record { whole = q.whole ∙ p.whole; offset = let x = p.offset in let y = q.offset in omega arith }

pub takes : {X : Type 0} (input : Input FrameFault) (o : Option (X × ℕ)) → AllMove input (taken input o)
takes input None = tt
takes input (Some r) = record { whole = refl; offset = omega arith }

pub binds : {X Y : Type 0} (input : Input FrameFault) (r : Reading X) (next : X × Input FrameFault → Reading Y) → AllMove input r → ((x : X × Input FrameFault) → AllMove x.1 (next x)) → AllMove input (r >>= next)
binds input (Err fault) next moves after = tt
binds {X} {Y} input (Ok x) next moves after = go (next x) (after x)
  where
    go : (r : Reading Y) → AllMove x.1 r → AllMove input r
    go (Err fault) then = tt
    go (Ok y) then = on input x.1 y.1 moves then

pub either : {X : Type 0} (input : Input FrameFault) (b : Bool) (x y : Reading X) → AllMove input x → AllMove input y → AllMove input (cond b x y)
either input true x y p q = p
either input false x y p q = q

pub number_moves : (count : ℕ) (input : Input FrameFault) → AllMove input (number_from count input)
number_moves count input = takes input (number_at count (left_of input.at))

pub uleb_moves : (input : Input FrameFault) → AllMove input (uleb_from input)
uleb_moves input = takes input (uleb_at (left_of input.at))

pub sleb_moves : (input : Input FrameFault) → AllMove input (sleb_from input)
sleb_moves input = takes input (sleb_at (left_of input.at))

pub bytes_move : (count : ℕ) (input : Input FrameFault) → AllMove {X = List ℕ} input (bytes_from count input)
bytes_move count input = takes input (bytes_at count (left_of input.at))

offset_moves : (input : Input FrameFault) → AllMove input (offset_from input)
unfolding offset_from
offset_moves input = binds input (uleb_from input) _ (uleb_moves input) (λ n. stays n.1)

factored_moves : (f : AlignmentFactors) (input : Input FrameFault) → AllMove input (factored_from f input)
unfolding factored_from
factored_moves f input = binds input (uleb_from input) _ (uleb_moves input) (λ n. stays n.1)

factored_sf_moves : (f : AlignmentFactors) (input : Input FrameFault) → AllMove input (factored_sf_from f input)
unfolding factored_sf_from
factored_sf_moves f input = binds input (sleb_from input) _ (sleb_moves input) (λ n. stays n.1)

pub block_moves : (input : Input FrameFault) → AllMove input (block_from input)
unfolding block_from
block_moves input = binds input (uleb_from input) _ (uleb_moves input) (λ n. binds {X = List ℕ} {Y = ℕ} n.1 (bytes_from n.0 n.1) _ (bytes_move n.0 n.1) (λ b. stays b.1))

cfa_moves : (f : AlignmentFactors) (opcode : ℕ) (input : Input FrameFault) → AllMove input (cfa_from f opcode input)
unfolding cfa_from
cfa_moves f opcode input =
    either input (opcode == DW_CFA_def_cfa) _ _ (binds input (uleb_from input) _ (uleb_moves input) (λ r. binds r.1 (offset_from r.1) _ (offset_moves r.1) (λ n. stays n.1)))
    (either input (opcode == DW_CFA_def_cfa_sf) _ _ (binds input (uleb_from input) _ (uleb_moves input) (λ r. binds r.1 (factored_sf_from f r.1) _ (factored_sf_moves f r.1) (λ n. stays n.1)))
    (either input (opcode == DW_CFA_def_cfa_register) _ _ (binds input (uleb_from input) _ (uleb_moves input) (λ r. stays r.1))
    (either input (opcode == DW_CFA_def_cfa_offset) _ _ (binds input (offset_from input) _ (offset_moves input) (λ n. stays n.1))
    (either input (opcode == DW_CFA_def_cfa_offset_sf) _ _ (binds input (factored_sf_from f input) _ (factored_sf_moves f input) (λ n. stays n.1))
    (either input (opcode == DW_CFA_def_cfa_expression) _ _ (binds input (block_from input) _ (block_moves input) (λ b. stays b.1)) tt)))))

rule_moves : (f : AlignmentFactors) (opcode register : ℕ) (input : Input FrameFault) → AllMove input (rule_from f opcode register input)
unfolding rule_from
rule_moves f opcode register input =
    either input (opcode == DW_CFA_undefined) _ _ (stays input)
    (either input (opcode == DW_CFA_same_value) _ _ (stays input)
    (either input (opcode == DW_CFA_offset_extended) _ _ (binds input (factored_from f input) _ (factored_moves f input) (λ n. stays n.1))
    (either input (opcode == DW_CFA_offset_extended_sf) _ _ (binds input (factored_sf_from f input) _ (factored_sf_moves f input) (λ n. stays n.1))
    (either input (opcode == DW_CFA_val_offset) _ _ (binds input (factored_from f input) _ (factored_moves f input) (λ n. stays n.1))
    (either input (opcode == DW_CFA_val_offset_sf) _ _ (binds input (factored_sf_from f input) _ (factored_sf_moves f input) (λ n. stays n.1))
    (either input (opcode == DW_CFA_register) _ _ (binds input (uleb_from input) _ (uleb_moves input) (λ s. stays s.1))
    (either input (opcode == DW_CFA_expression) _ _ (binds input (block_from input) _ (block_moves input) (λ b. stays b.1))
    (binds input (block_from input) _ (block_moves input) (λ b. stays b.1)))))))))

register_rule_moves : (f : AlignmentFactors) (opcode : ℕ) (input : Input FrameFault) → AllMove input (register_rule_from f opcode input)
unfolding register_rule_from
register_rule_moves f opcode input = binds input (uleb_from input) _ (uleb_moves input) (λ r. rule_moves f opcode r.0 r.1)

extended_moves : (f : AlignmentFactors) (opcode : ℕ) (input : Input FrameFault) → AllMove input (extended_from f opcode input)
unfolding extended_from
extended_moves f opcode input =
    either input (opcode == DW_CFA_nop) _ _ (stays input)
    (either input (opcode == DW_CFA_set_loc) _ _ (binds input (number_from 4 input) _ (number_moves 4 input) (λ w. stays w.1))
    (either input (opcode == DW_CFA_advance_loc1) _ _ (binds input (number_from 1 input) _ (number_moves 1 input) (λ d. stays d.1))
    (either input (opcode == DW_CFA_advance_loc2) _ _ (binds input (number_from 2 input) _ (number_moves 2 input) (λ d. stays d.1))
    (either input (opcode == DW_CFA_advance_loc4) _ _ (binds input (number_from 4 input) _ (number_moves 4 input) (λ d. stays d.1))
    (either input (opcode == DW_CFA_restore_extended) _ _ (binds input (uleb_from input) _ (uleb_moves input) (λ r. stays r.1))
    (either input (opcode == DW_CFA_remember_state) _ _ (stays input)
    (either input (opcode == DW_CFA_restore_state) _ _ (stays input)
    (either input (opcode == DW_CFA_GNU_args_size) _ _ (binds input (uleb_from input) _ (uleb_moves input) (λ n. stays n.1))
    (either input (is_rule opcode) _ _ (register_rule_moves f opcode input) (cfa_moves f opcode input))))))))))

pub opcode_moves : (f : AlignmentFactors) (byte : ℕ) (input : Input FrameFault) → AllMove input (instruction_after_opcode f byte input)
unfolding instruction_after_opcode
opcode_moves f byte input =
    either input (primary_opcode byte == DW_CFA_advance_loc) _ _ (stays input)
    (either input (primary_opcode byte == DW_CFA_offset) _ _ (rule_moves f DW_CFA_offset_extended (primary_operand byte) input)
    (either input (primary_opcode byte == DW_CFA_restore) _ _ (stays input) (extended_moves f byte input)))

-- what is read after a byte ends after it
pub behind_byte : {X : Type 0} (next : ℕ × Input FrameFault → Reading X) (input after : Input FrameFault) (x : X) → ((n : ℕ) (mid : Input FrameFault) → AllMove mid (next (n, mid))) → (number_from 1 input >>= next) ≡ Ok (x, after)
    → (after.at.whole ≡ input.at.whole) × (input.at.offset < after.at.offset)
behind_byte {X} next input after x moves e = from (nat_lt (length (left_of input.at)) 1) (number_in 1 (left_of input.at)) e
  where
    ends : (mid : Input FrameFault) (r : Reading X) → AllMove mid r → r ≡ Ok (x, after) → Moves mid after
    ends mid r moves e = let P : Reading X → Type 0 = λ q. AllMove mid q in subst P e moves

    from : (b : Bool) (n : ℕ) → (taken input (cond b None (Some (n, 1))) >>= next) ≡ Ok (x, after) → (after.at.whole ≡ input.at.whole) × (input.at.offset < after.at.offset)
    from true n e = absurd cc
    from false n e =
        let mid : Input FrameFault = record { at = record { whole = input.at.whole; offset = input.at.offset + 1 }; missing = input.missing } in
        let m = ends mid (next (n, mid)) (moves n mid) e in
        (m.whole, let le = m.offset in omega arith)

pub instruction_moves : (f : AlignmentFactors) (input next : Input FrameFault) (i : CallFrameInstruction) → instruction_from f input ≡ Ok (i, next) → (next.at.whole ≡ input.at.whole) × (input.at.offset < next.at.offset)
unfolding instruction_from
instruction_moves f input next i e = behind_byte (λ byte. instruction_after_opcode f byte.0 byte.1) input next i (λ n mid. opcode_moves f n mid) e
