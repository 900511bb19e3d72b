-- Pieces that wait for their stripes.
use Rattle.std.specs.Prelude.{ℕ, ◌≡◌, ◌+◌, ◌-◌, ◌*◌, ◌<◌, ◌≤◌, All, List, None, cond, length}
use Rattle.scope_types.specs.declared.path.Piece.{Piece}
use Rattle.stripe_table.specs.Limits.{Chunks, IsPieceOf}
use Rattle.stripe_table.specs.Values.{PassValue}
use Rattle.stripe_table.specs.Views.{draws, is_piece, owes, times_piece, total, weight}
use Rattle.stripe_table.specs.declared.view.PassView.{PassView}
use Rattle.merge_crew.specs.declared.work.Waiting.{Waiting}
use Rattle.merge_crew.specs.declared.work.Worker.{Worker}

-- a piece that was not offered yet
abbrev pub first_time : Piece → Waiting
first_time piece = record { piece = piece; offers = 0 }

-- a piece that was offered once more
abbrev pub later : Waiting → Waiting
later p = record { piece = p.piece; offers = p.offers + 1 }

-- how often the piece (c, s) waits
abbrev pub times_waiting : ℕ → ℕ → List Waiting → ℕ
times_waiting c s queue = total (λ p. weight (is_piece c s (p.piece.chunk, p.piece.stripe))) queue

-- how often the pieces may still be offered
abbrev pub offers_left : List Waiting → ℕ
offers_left queue = total (λ p. 64 - p.offers) queue

-- pieces of the plan that the pass owes and that may be offered again. Each offer of them, and 64 offers of each piece
-- that was left, found the stripe busy
pub record Waits (plan : Chunks) (queue : List Waiting) (v : PassView) (busy_left : ℕ) : Type 0 where
  pub pieces : All (λ p. IsPieceOf plan p.piece) queue
  pub few : All (λ p. p.offers < 64) queue
  pub owed : (c s : ℕ) → times_waiting c s queue ≤ owes c s v
  pub busy : 64 * busy_left + total (λ p. p.offers) queue ≤ v.busy

-- how often a piece that waits may still be offered, where it is the piece (c, s)
abbrev pub left_at : ℕ → ℕ → Waiting → ℕ
left_at c s p = cond (is_piece c s (p.piece.chunk, p.piece.stripe)) (64 - p.offers) 0

-- of a pass that left a given number of pieces busy: each piece that it owes was offered 64 times, but for the offers
-- that are left of the pieces that wait and of those that come next. With these offers, no piece is offered more than
-- 64 times for each draw of its chunk. The pieces that it owes are those that were left, that wait and that come next
pub record Offering (next : List (ℕ × ℕ)) (queue : List Waiting) (pass : PassValue) (busy_left : ℕ) : Type 0 where
  pub least : (c s : ℕ) → 64 * owes c s pass.view
      ≤ times_piece c s pass.offered + (total (left_at c s) queue + 64 * times_piece c s next)
  pub most : (c s : ℕ) → times_piece c s pass.offered + (total (left_at c s) queue + 64 * times_piece c s next)
      ≤ 64 * draws c pass.view
  pub left : length pass.view.owed ≡ busy_left + (length queue + length next)

-- so it is of a worker, unless memory ran out
abbrev pub OffersAll : List (ℕ × ℕ) → List Waiting → Worker → Type 0
OffersAll next queue w = w.failed ≡ None → Offering next queue w.pass w.busy_left
