-- What a pass shows, and how each step changes it.
use Rattle.std.specs.Prelude.{ℕ, zero, suc, ◌&&◌, ◌+◌, ◌/◌, ◌%◌, ◌==◌, Bool, true, false, cond}
use Rattle.std.specs.Prelude.{ltb, leb, length, List, [], ◌∷◌, ◌++◌}
use Rattle.scope_types.specs.Limits.{stripe_count}
use Rattle.stripe_table.specs.Limits.{Chunks}
use Rattle.stripe_table.specs.declared.view.PassView.{PassView}
use Rattle.stripe_table.specs.declared.view.Hold.{Hold}
use Rattle.stripe_table.specs.declared.view.Hold.TheVariants.{Free, Holds}
use Rattle.stripe_table.specs.declared.view.Last.TheVariants.{Nothing, Drew, Saw, Found, Named}
use Rattle.stripe_table.specs.declared.stripe.Stripe.{Stripe}
use Rattle.stripe_table.specs.Stripe.{empty_stripe}

-- ---- counting

-- the sum of f over all views
abbrev pub total : {V : Type 0} → (V → ℕ) → List V → ℕ
total f [] = 0
total f (v ∷ vs) = f v + total f vs

-- a test as a number
abbrev pub weight : Bool → ℕ
weight true = 1
weight false = 0

-- how often x is in a list
abbrev pub occurrences : ℕ → List ℕ → ℕ
occurrences x [] = 0
occurrences x (y ∷ ys) = weight (x == y) + occurrences x ys

-- the sum of f below n
abbrev pub sum_below : ℕ → (ℕ → ℕ) → ℕ
sum_below zero f = 0
sum_below (suc n) f = f n + sum_below n f

-- ---- pieces that are owed: a chunk and a stripe each

-- whether a piece is that of chunk c and stripe s
abbrev pub is_piece : ℕ → ℕ → ℕ × ℕ → Bool
is_piece c s q = (c == q.0) && (s == q.1)

-- how often the piece (c, s) is owed
abbrev pub times_piece : ℕ → ℕ → List (ℕ × ℕ) → ℕ
times_piece c s [] = 0
times_piece c s (q ∷ qs) = weight (is_piece c s q) + times_piece c s qs

-- without one (c, s), where it is there
abbrev pub without : ℕ → ℕ → List (ℕ × ℕ) → List (ℕ × ℕ)
without c s [] = []
without c s (q ∷ qs) = cond (is_piece c s q) qs (q ∷ without c s qs)

-- the pieces (c, 0) to (c, k - 1)
abbrev pub chunk_pieces : ℕ → ℕ → List (ℕ × ℕ)
chunk_pieces c zero = []
chunk_pieces c (suc k) = (c, k) ∷ chunk_pieces c k

-- ---- the numbers that a view shows

-- how many chunks the pass drew
abbrev pub got : PassView → ℕ
got v = v.got

-- how many numbers past the last chunk it drew
abbrev pub over : PassView → ℕ
over v = v.over

-- how many passes it made
abbrev pub splits : PassView → ℕ
splits v = v.splits

-- how many passes it took in
abbrev pub joins : PassView → ℕ
joins v = v.joins

-- 1 for the first pass, and else 0
abbrev pub first : PassView → ℕ
first v = weight v.first

-- 1 for an unspent pass, and else 0
abbrev pub live : PassView → ℕ
live v = weight v.live

-- how often it drew chunk c
abbrev pub draws : ℕ → PassView → ℕ
draws c v = occurrences c v.drawn

-- how many pieces the pass merged into stripe s
abbrev pub done : ℕ → PassView → ℕ
done s v = occurrences s v.puts

-- how often it owes the piece (c, s)
abbrev pub owes : ℕ → ℕ → PassView → ℕ
owes c s v = times_piece c s v.owed

-- 1 where stripe s is held, and else 0
abbrev pub held_once : ℕ → Hold → ℕ
held_once s Free = 0
held_once s (Holds t k) = weight (s == t)

-- 1 for a pass that holds stripe s, and else 0
abbrev pub holds_stripe : ℕ → PassView → ℕ
holds_stripe s v = held_once s v.hold

-- ---- views

-- a pass that did nothing yet; whether it is the first is given
abbrev pub fresh_view : Bool → Chunks → PassView
fresh_view is_first chunks = record {
  plan = chunks;
  first = is_first;
  live = true;
  got = 0;
  over = 0;
  splits = 0;
  joins = 0;
  busy = 0;
  met = 0;
  drawn = [];
  puts = [];
  owed = [];
  hold = Free;
  taken = empty_stripe;
  last = Nothing;
}

-- the view of the first pass at its start
abbrev pub first_view : Chunks → PassView
first_view plan = fresh_view true plan

-- a pass that another took in
abbrev pub spent_view : PassView
spent_view = record {
  plan = [];
  first = false;
  live = false;
  got = 0;
  over = 0;
  splits = 0;
  joins = 0;
  busy = 0;
  met = 0;
  drawn = [];
  puts = [];
  owed = [];
  hold = Free;
  taken = empty_stripe;
  last = Nothing;
}

-- it drew the number w: a chunk, whose pieces it owes now, or a number past the last
abbrev pub after_draw : ℕ → PassView → PassView
after_draw w v = record v {
  got = v.got + weight (ltb w (length v.plan));
  over = v.over + weight (leb (length v.plan) w);
  drawn = v.drawn ++ cond (ltb w (length v.plan)) (w ∷ []) [];
  owed = v.owed ++ cond (ltb w (length v.plan)) (chunk_pieces w stripe_count) [];
  last = Drew w;
}

-- it looked at stripe s and saw e, and found w
abbrev pub after_busy : ℕ → ℕ → ℕ → PassView → PassView
after_busy s e w v = record v { busy = v.busy + 1; last = Found s e w }

-- it looked at stripe s: an even word it saw, and an odd one it found
abbrev pub after_look : ℕ → ℕ → PassView → PassView
after_look s w v = cond (w % 2 == 0) (record v { last = Saw s w }) (after_busy s w w v)

-- it took stripe s, which was x, and whose word was e
abbrev pub after_take : ℕ → ℕ → Stripe → PassView → PassView
after_take s e x v = record v { hold = Holds s (e / 2); taken = x; last = Nothing }

-- it put back stripe s with one more than k names, the last of which is c
abbrev pub after_put : ℕ → ℕ → ℕ → PassView → PassView
after_put s k c v = record v {
  puts = v.puts ++ s ∷ [];
  owed = without c s v.owed;
  hold = Free;
  taken = empty_stripe;
  last = Named s k c;
}

-- it put back a stripe as it was
abbrev pub after_put_back : PassView → PassView
after_put_back v = record v { hold = Free; taken = empty_stripe; last = Nothing }

-- it put back stripe s as it was, whose name at index p is c
abbrev pub after_present : ℕ → ℕ → ℕ → PassView → PassView
after_present s p c v = record v {
  owed = without c s v.owed;
  hold = Free;
  taken = empty_stripe;
  met = v.met + 1;
  last = Named s p c;
}

-- it made another pass
abbrev pub after_split : PassView → PassView
after_split v = record v { splits = v.splits + 1; last = Nothing }

-- it took in another pass, which showed u
abbrev pub after_join : PassView → PassView → PassView
after_join v u = record v {
  got = v.got + u.got;
  over = v.over + u.over;
  joins = v.joins + 1;
  busy = v.busy + u.busy;
  met = v.met + u.met;
  drawn = v.drawn ++ u.drawn;
  puts = v.puts ++ u.puts;
  owed = v.owed ++ u.owed;
  last = Nothing;
}
