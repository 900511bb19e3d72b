-- Values that bytes give, or the first fault in them; and what a call that may lack memory gives of these.
use Rattle.std.specs.Prelude.{◌≡◌, Result, Ok, Err}
use Rattle.prof_bytes.specs.declared.fail.Fail.{Fail}
use Rattle.prof_bytes.specs.declared.fail.Fail.TheVariants as fails

infixl 10 ◌>>=◌
-- what comes next, unless there is a fault already
abbrev pub ◌>>=◌ : {X Y F : Type 0} → Result X F → (X → Result Y F) → Result Y F
(Ok x) >>= next = next x
(Err fault) >>= next = Err fault

-- a value seen by `view`, or the same fault
abbrev pub viewed : {X Y F : Type 0} → (X → Y) → Result X F → Result Y F
viewed view (Ok x) = Ok (view x)
viewed view (Err fault) = Err fault

-- the definition has just this fault, or there was no memory
abbrev pub FailsBy : {Y F : Type 0} → Fail F → Result Y F → Type 0
FailsBy (fails.Fault fault) wanted = wanted ≡ Err fault
FailsBy (fails.Memory memory) wanted = Unit {0}

-- a call gave what the definition gives, seen by `view`, unless there was no memory
abbrev pub Gives : {X Y F : Type 0} → (X → Y) → Result X (Fail F) → Result Y F → Type 0
Gives view (Ok x) wanted = wanted ≡ Ok (view x)
Gives view (Err fail) wanted = FailsBy fail wanted

-- a call gave what the definition gives, seen by `view`, and left its reader at what is after it
abbrev pub GivesAt : {X Y F R : Type 0} → (X → Y) → Result X F → R → Result (Y × R) F → Type 0
GivesAt view (Ok x) after wanted = wanted ≡ Ok (view x, after)
GivesAt view (Err fault) after wanted = wanted ≡ Err fault

-- the same of a call that may find no memory
abbrev pub GivesFrom : {X Y F R : Type 0} → (X → Y) → Result X (Fail F) → R → Result (Y × R) F → Type 0
GivesFrom view (Ok x) after wanted = wanted ≡ Ok (view x, after)
GivesFrom view (Err fail) after wanted = FailsBy fail wanted
