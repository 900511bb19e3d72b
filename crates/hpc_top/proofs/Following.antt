-- What follows from the table of answers.
use Rattle.std.proofs.Common.{◌≡◌, ℕ, List, [], ◌++◌, Option, Some, None, Result, Ok, Err, IsTrue, IsOk, is_ok, true, false, refl, ap, sym, subst, ◌∙◌}
use Rattle.std.specs.Prelude.{IsNone, IsSomeAnd}
use Rattle.std.proofs.lemmas.List.{append-nil}
use Rattle.prof_devices.specs.declared.logs.ShelfCall.{ShelfCall}
use Rattle.prof_devices.specs.Files.{Files}
use Rattle.prof_devices.specs.Outside.{ShelfState, SinkState, Rose}
use Rattle.command_line.specs.declared.status.InputFault.{InputFault}
use Rattle.command_line.specs.declared.status.Status.{Status}
use Rattle.command_line.specs.declared.status.Status.TheVariants.{Done, Usage, Input, Device, Memory}
use Rattle.command_line.specs.declared.status.Place.TheVariants.{Read, Store, Print}
use Rattle.command_line.specs.declared.product.Product.{Product}
use Rattle.command_line.specs.Request.{Request}
use Rattle.command_line.specs.Words.{drill_request}
use Rattle.hpc_top.specs.Verdict.{verdict}
use Rattle.hpc_top.specs.Outcome.{Call, Answers, Makes, Finished, are_known}
use Rattle.hpc_top.specs.Follows.{Follows, Drilled, UsageOrMemory, RefusalReadOrMemory, DoneOrMemory, NothingFailed}

-- ---- a verdict is one thing

accepted_or_not : (r : Result Product InputFault) (p : Product) (fault : InputFault) → r ≡ Ok p → r ≡ Err fault → ⊥
accepted_or_not r p fault accepted refused = absurd cc

one_refusal : (r : Result Product InputFault) (f g : InputFault) → r ≡ Err f → r ≡ Err g → f ≡ g
one_refusal r f g a b = cc

not_refused : (r : Result Product InputFault) (fault : InputFault) → IsOk r → r ≡ Err fault → ⊥
not_refused r fault ok refused = let e : is_ok r ≡ false = ap is_ok refused in absurd (let k : true ≡ false = sym ok ∙ e in cc)

module _ (call : Call) where
  -- ---- the rows of single answers

  done : (asked : Option Request) → Answers asked call Done → IsSomeAnd asked (λ request. Makes request Finished call)
  done None row = absurd row
  done (Some request) row = row

  drill : (asked : Option Request) (number workers : ℕ) → Answers asked call Done → asked ≡ Some (drill_request number workers) → Drilled number call
  drill asked number workers row is =
      let made : Makes (drill_request number workers) Finished call = subst (λ (a : Option Request). Answers a call Done) is row in
      let before : ShelfState = call.before.shelf in
      record {
        product = made.0;
        of_guest = made.1 refl;
        shelf =
            made.2.1
            ∙ ap (λ (files : Files). let s : ShelfState = record before { files = files; log = before.log ++ [] } in s) made.2.0
            ∙ ap (λ (log : List ShelfCall). let s : ShelfState = record before { log = log } in s) (append-nil before.log);
        once = ap (λ (o : SinkState). o.log) made.2.3;
        out = made.2.2;
      }

  usage : (asked : Option Request) → Answers asked call Usage → IsNone asked
  usage None row = refl
  usage (Some request) row = absurd row

  input : (asked : Option Request) (fault : InputFault) → Answers asked call (Input fault)
      → IsSomeAnd asked (λ request. IsTrue (are_known request.reads call.before.shelf) → verdict request call.before.shelf.files ≡ Err fault)
  input None fault row = absurd row
  input (Some request) fault row = row.3

  read : (asked : Option Request) → Answers asked call (Device Read) → Rose call.before.shelf.reads.count call.after.shelf.reads.count
  read None row = absurd row
  read (Some request) row = row.1.rose

  store : (asked : Option Request) → Answers asked call (Device Store) → Rose call.before.shelf.stores.count call.after.shelf.stores.count
  store None row = absurd row
  store (Some request) row = row.1.rose

  print : (asked : Option Request) → Answers asked call (Device Print) → Rose call.before.out.faults call.after.out.faults
  print None row = absurd row
  print (Some request) row = row.1.rose

  -- ---- the answers that may come

  invalid : (status : Status) → Answers None call status → UsageOrMemory status
  invalid Usage row = tt
  invalid (Memory memory) row = tt
  invalid Done row = row
  invalid (Input fault) row = row
  invalid (Device place) row = row

  module _ (request : Request) (told : IsTrue (are_known request.reads call.before.shelf)) where
    refused : (fault : InputFault) → verdict request call.before.shelf.files ≡ Err fault → (status : Status) → Answers (Some request) call status → RefusalReadOrMemory fault status
    refused fault is Done row = accepted_or_not (verdict request call.before.shelf.files) row.0 fault (row.1 told) is
    refused fault is Usage row = row
    refused fault is (Input other) row = one_refusal (verdict request call.before.shelf.files) other fault (row.3 told) is
    refused fault is (Device Read) row = tt
    refused fault is (Device Store) row = accepted_or_not (verdict request call.before.shelf.files) row.0.0 fault (row.0.1 told) is
    refused fault is (Device Print) row = accepted_or_not (verdict request call.before.shelf.files) row.0.0 fault (row.0.1 told) is
    refused fault is (Memory memory) row = tt

    complete : IsOk (verdict request call.before.shelf.files) → NothingFailed call → (status : Status) → Answers (Some request) call status → DoneOrMemory status
    complete ok nothing Done row = tt
    complete ok nothing (Memory memory) row = tt
    complete ok nothing Usage row = row
    complete ok nothing (Input fault) row = not_refused (verdict request call.before.shelf.files) fault ok (row.3 told)
    complete ok nothing (Device Read) row = nothing.reads row.1.rose
    complete ok nothing (Device Store) row = nothing.stores row.1.rose
    complete ok nothing (Device Print) row = nothing.puts row.1.rose

  unasked : (asked : Option Request) → IsNone asked → asked ≡ None
  unasked None none = refl
  unasked (Some request) none = absurd cc

  pub follows : (asked : Option Request) (status : Status) → Answers asked call status → Follows asked call status
  follows asked status row = record {
    done = λ is. done asked (subst (Answers asked call) is row);
    drill = λ number workers is_drill is. drill asked number workers (subst (Answers asked call) is row) is_drill;
    usage = λ is. usage asked (subst (Answers asked call) is row);
    invalid = λ none. invalid status (subst (λ (a : Option Request). Answers a call status) (unasked asked none) row);
    input = λ fault is. input asked fault (subst (Answers asked call) is row);
    refused = λ request fault is told verdict_is. refused request told fault verdict_is status (subst (λ (a : Option Request). Answers a call status) is row);
    complete = λ request is told ok nothing. complete request told ok nothing status (subst (λ (a : Option Request). Answers a call status) is row);
    read = λ is. read asked (subst (Answers asked call) is row);
    store = λ is. store asked (subst (Answers asked call) is row);
    print = λ is. print asked (subst (Answers asked call) is row);
  }
