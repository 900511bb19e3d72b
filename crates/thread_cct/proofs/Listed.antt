-- Paths whose frames lie in one list of addresses.
use Rattle.std.proofs.Common.{◌≡◌, ℕ, zero, suc, ◌+◌, ◌-◌, ◌<◌, ◌≤◌, Bool, true, false, cond, List, [], ◌∷◌, ◌++◌, length, get_or, take, drop, map, set, All, refl, sym, ap, subst, ◌∙◌, arith, length-drop}
use Rattle.std.specs.Prelude.{slice_get, Some}
use Rattle.std.proofs.lemmas.Bool.{or_from, or_parts}
use Rattle.std.proofs.lemmas.List.{length-append, length-map, length-take-le, map-append, take-append-le}
use Rattle.std.proofs.lemmas.List.Elements.{All-nil, All-cons, All-head, All-tail, All-append, All-map, All-set, All-weaker}
use Rattle.std.proofs.lemmas.List.Sums.{sum_by-cons, sum_by-append}
use Rattle.scope_types.specs.declared.frame.Counted.{Counted}
use Rattle.scope_types.specs.Limits.{most_frames_of_path}
use Rattle.scope_types.specs.Raw.{Raw, same_raw}
use Rattle.thread_cct.specs.declared.path_list.ListedPath.{ListedPath}
use Rattle.thread_cct.specs.declared.repeats.NumberedPath.{NumberedPath}
use Rattle.thread_cct.specs.Adding.{has_path, count_one}
use Rattle.thread_cct.specs.Listing.{frame_at, frames_of_all, samples_of}
use Rattle.thread_cct.specs.private.Fields.{IsPathAt}
use Rattle.thread_cct.specs.private.Keys.{IsNumbered}
use Rattle.thread_cct.specs.private.Listed.{AreListed, IsListed, listed_path, listed_paths}

abbrev frames_of : Counted → ℕ
frames_of c = length c.path.frames

-- ---- more addresses

drop-append-le : (n : ℕ) (xs ys : List ℕ) → n ≤ length xs → drop n (xs ++ ys) ≡ drop n xs ++ ys
drop-append-le zero xs ys le = refl
drop-append-le (suc n) [] ys le = absurd (omega (arith, le))
drop-append-le (suc n) (x ∷ xs) ys le = drop-append-le n xs ys (omega (arith, le))

-- a path stays as it is when addresses are put behind those of all
path_stays : (pcs more : List ℕ) (p : ListedPath) → IsListed pcs p → listed_path (pcs ++ more) p ≡ listed_path pcs p
path_stays pcs more p is =
    let within = is.within in
    let rest = length-drop p.first pcs in
    let dropped = drop-append-le p.first pcs more (omega (arith, within)) in
    let taken : take p.length (drop p.first (pcs ++ more)) ≡ take p.length (drop p.first pcs) = ap (take p.length) dropped ∙ take-append-le p.length (drop p.first pcs) more (omega (arith, within, rest)) in
    λ i. record { path = record { end = p.end; frames = map frame_at (taken i) }; count = p.count }

listed_stays : (pcs more : List ℕ) (p : ListedPath) → IsListed pcs p → IsListed (pcs ++ more) p
listed_stays pcs more p is =
    let within = is.within in
    let long = length-append pcs more in
    record { some = is.some; few = is.few; within = omega (arith, within, long) }

pub paths_stay : (pcs more : List ℕ) (ps : List ListedPath) → All (IsListed pcs) ps → listed_paths (pcs ++ more) ps ≡ listed_paths pcs ps
paths_stay pcs more [] all = refl
paths_stay pcs more (p ∷ ps) all = λ i. path_stays pcs more p (All-head (IsListed pcs) p ps all) i ∷ paths_stay pcs more ps (All-tail (IsListed pcs) p ps all) i

all_stay : (pcs more : List ℕ) (ps : List ListedPath) → All (IsListed pcs) ps → All (IsListed (pcs ++ more)) ps
all_stay pcs more [] all = All-nil (IsListed (pcs ++ more))
all_stay pcs more (p ∷ ps) all = All-cons (IsListed (pcs ++ more)) p ps (listed_stays pcs more p (All-head (IsListed pcs) p ps all)) (all_stay pcs more ps (All-tail (IsListed pcs) p ps all))

-- the paths as they are where a path could not be put
pub more_listed : (pcs more new : List ℕ) (ps : List ListedPath) (frames : ℕ) → AreListed pcs ps frames → new ≡ pcs ++ more → AreListed new ps frames
more_listed pcs more new ps frames are is =
    subst (λ (l : List ℕ). AreListed l ps frames) (sym is) (record {
      each = all_stay pcs more ps are.each;
      sum = are.sum ∙ ap frames_of_all (sym (paths_stay pcs more ps are.each));
    })

-- ---- one path more

last_listed : (pcs more : List ℕ) (p : ListedPath) → p.first ≡ length pcs → p.length ≡ length more → 1 ≤ length more → length more ≤ most_frames_of_path → IsListed (pcs ++ more) p
last_listed pcs more p first long some few =
    let both = length-append pcs more in
    record { some = omega (arith, long, some); few = omega (arith, long, few); within = omega (arith, both, first, long) }

drop_front : (xs ys : List ℕ) → drop (length xs) (xs ++ ys) ≡ ys
drop_front [] ys = refl
drop_front (x ∷ xs) ys = drop_front xs ys

take_whole : (xs : List ℕ) → take (length xs) xs ≡ xs
take_whole [] = refl
take_whole (x ∷ xs) = ap (λ (l : List ℕ). x ∷ l) (take_whole xs)

last_path : (pcs more : List ℕ) (p : ListedPath) → p.first ≡ length pcs → p.length ≡ length more → listed_path (pcs ++ more) p ≡ record { path = record { end = p.end; frames = map frame_at more }; count = p.count }
last_path pcs more p first long =
    let taken : take p.length (drop p.first (pcs ++ more)) ≡ more = (λ i. take (long i) (drop (first i) (pcs ++ more))) ∙ ap (take (length more)) (drop_front pcs more) ∙ take_whole more in
    λ i. record { path = record { end = p.end; frames = map frame_at (taken i) }; count = p.count }

module _ (pcs more new : List ℕ) (ps news : List ListedPath) (p : ListedPath) (frames : ℕ) (are : AreListed pcs ps frames) (is_new : new ≡ pcs ++ more) (is_news : news ≡ ps ++ p ∷ []) (first : p.first ≡ length pcs) (long : p.length ≡ length more) where
  pub put_view : listed_paths new news ≡ listed_paths pcs ps ++ record { path = record { end = p.end; frames = map frame_at more }; count = p.count } ∷ []
  put_view =
      (λ i. listed_paths (is_new i) (is_news i)) ∙ map-append (listed_path (pcs ++ more)) ps (p ∷ [])
      ∙ (λ i. paths_stay pcs more ps are.each i ++ last_path pcs more p first long i ∷ [])

  pub put_listed : 1 ≤ length more → length more ≤ most_frames_of_path → AreListed new news (frames + length more)
  put_listed some few =
      let c : Counted = record { path = record { end = p.end; frames = map frame_at more }; count = p.count } in
      let parts = sum_by-append frames_of (listed_paths pcs ps) (c ∷ []) in
      let last = sum_by-cons frames_of c [] in
      let one : length (map frame_at more) ≡ length more = map_length more in
      let all : frames_of_all (listed_paths new news) ≡ frames_of_all (listed_paths pcs ps ++ c ∷ []) = ap frames_of_all put_view in
      let old = are.sum in
      record {
        each = (let each : All (IsListed (pcs ++ more)) (ps ++ p ∷ []) = All-append (IsListed (pcs ++ more)) ps (p ∷ []) (all_stay pcs more ps are.each) (All-cons (IsListed (pcs ++ more)) p [] (last_listed pcs more p first long some few) (All-nil (IsListed (pcs ++ more))))
            in subst (λ (l : List ℕ). All (IsListed l) news) (sym is_new) (subst (All (IsListed (pcs ++ more))) (sym is_news) each));
        sum = omega (arith, old, parts, last, one, all);
      }
    where
      map_length : (xs : List ℕ) → length (map frame_at xs) ≡ length xs
      map_length [] = refl
      map_length (x ∷ xs) = ap suc (map_length xs)

-- ---- the path at an index

path_at : (pcs : List ℕ) (ps : List ListedPath) (i : ℕ) (d : ListedPath) → i < length ps → slice_get (listed_paths pcs ps) i ≡ Some (listed_path pcs (get_or ps i d))
path_at pcs [] i d less = absurd (omega (arith, less))
path_at pcs (p ∷ ps) zero d less = refl
path_at pcs (p ∷ ps) (suc i) d less = path_at pcs ps i d (omega (arith, less))

pub path_is_at : (pcs : List ℕ) (ps : List ListedPath) (now : List Counted) (i : ℕ) (p : ListedPath) → listed_paths pcs ps ≡ now → p ≡ get_or ps i p → i < length ps → slice_get now i ≡ Some (listed_path pcs p)
path_is_at pcs ps now i p view is less = ap (λ (l : List Counted). slice_get l i) (sym view) ∙ path_at pcs ps i p less ∙ ap (λ (q : ListedPath). Some (listed_path pcs q)) (sym is)

pub index_within : (pcs : List ℕ) (ps : List ListedPath) (now : List Counted) (i : ℕ) → listed_paths pcs ps ≡ now → i < length now → i < length ps
index_within pcs ps now i view lt =
    let long = ap (λ (l : List Counted). length l) view in
    let many = length-map ps (listed_path pcs) in
    omega (arith, long, many, lt)

pub found_here : (raw : Raw) (cs : List Counted) (i : ℕ) (c : Counted) → has_path raw (take i cs) ≡ false → slice_get cs i ≡ Some c → same_raw raw c.path ≡ true → IsPathAt raw cs i
found_here raw [] i c none at same = absurd cc
found_here raw (x ∷ cs) zero c none at same = let is : x ≡ c = cc in ap (λ (y : Counted). same_raw raw y.path) is ∙ same
found_here raw (x ∷ cs) (suc i) c none at same =
    let parts = or_parts (same_raw raw x.path) (has_path raw (take i cs)) none in
    (parts.0, found_here raw cs i c parts.1 at same)

-- ---- one count more

pub counted_there : (raw : Raw) (pcs : List ℕ) (ps : List ListedPath) (i : ℕ) (p : ListedPath) → IsPathAt raw (listed_paths pcs ps) i → p ≡ get_or ps i p
    → listed_paths pcs (set ps i (record { first = p.first; count = p.count + 1; length = p.length; end = p.end })) ≡ count_one raw (listed_paths pcs ps)
counted_there raw pcs [] i p at is = absurd at
counted_there raw pcs (q ∷ ps) zero p at is =
    (λ i. listed_path pcs (record { first = (is i).first; count = (is i).count + 1; length = (is i).length; end = (is i).end }) ∷ listed_paths pcs ps)
    ∙ sym (ap (λ (b : Bool). cond b (record { path = (listed_path pcs q).path; count = q.count + 1 } ∷ listed_paths pcs ps) (listed_path pcs q ∷ count_one raw (listed_paths pcs ps))) at)
counted_there raw pcs (q ∷ ps) (suc i) p at is =
    ap (λ (l : List Counted). listed_path pcs q ∷ l) (counted_there raw pcs ps i p at.1 is)
    ∙ sym (ap (λ (b : Bool). cond b (record { path = (listed_path pcs q).path; count = q.count + 1 } ∷ listed_paths pcs ps) (listed_path pcs q ∷ count_one raw (listed_paths pcs ps))) at.0)

-- ---- the keys of all paths

pub record KeysSoFar (counted : List Counted) (n : ℕ) (keys : List NumberedPath) : Type 0 where
  pub many : length keys ≡ n
  pub each : All (IsNumbered counted) keys
  pub order : (i : ℕ) (d : NumberedPath) → i < length keys → (get_or keys i d).number ≡ i

-- ---- paths that were looked at

absent_so_far : (raw : Raw) (cs : List Counted) (i : ℕ) (c : Counted) → has_path raw (take i cs) ≡ false → slice_get cs i ≡ Some c → same_raw raw c.path ≡ false → has_path raw (take (suc i) cs) ≡ false
absent_so_far raw [] i c none at apart = absurd cc
absent_so_far raw (x ∷ cs) zero c none at apart = (let is : x ≡ c = cc in or_from (same_raw raw x.path) false (ap (λ (y : Counted). same_raw raw y.path) is ∙ apart) refl)
absent_so_far raw (x ∷ cs) (suc i) c none at apart =
    let parts = or_parts (same_raw raw x.path) (has_path raw (take i cs)) none in
    or_from (same_raw raw x.path) (has_path raw (take (suc i) cs)) parts.0 (absent_so_far raw cs i c parts.1 at apart)

pub absent_more : (raw : Raw) (cs : List Counted) (i : ℕ) (c : Counted) → has_path raw (take i cs) ≡ false → slice_get cs i ≡ Some c → same_raw raw c.path ≡ false → has_path raw (take (i + 1) cs) ≡ false
absent_more raw cs i c none at apart = (let next : suc i ≡ i + 1 = omega arith in subst (λ (k : ℕ). has_path raw (take k cs) ≡ false) next (absent_so_far raw cs i c none at apart))

pub there_within : (raw : Raw) (cs : List Counted) (i : ℕ) → IsPathAt raw cs i → i < length cs
there_within raw [] i at = absurd at
there_within raw (c ∷ cs) zero at = omega arith
there_within raw (c ∷ cs) (suc i) at = (let less = there_within raw cs i at.1 in omega (arith, less))

-- no count is above their sum
pub count_few : (cs : List Counted) (i : ℕ) (c : Counted) → slice_get cs i ≡ Some c → c.count ≤ samples_of cs
count_few [] i c at = absurd cc
count_few (x ∷ cs) zero c at =
    let parts = sum_by-cons (λ (y : Counted). y.count) x cs in
    let is : x ≡ c = cc in
    let same : x.count ≡ c.count = ap (λ (y : Counted). y.count) is in
    omega (arith, parts, same)
count_few (x ∷ cs) (suc i) c at =
    let parts = sum_by-cons (λ (y : Counted). y.count) x cs in
    let few = count_few cs i c at in
    omega (arith, parts, few)

-- a path that is counted once more has the same frames
abbrev pub counted_more : ListedPath → ListedPath
counted_more p = record { first = p.first; count = p.count + 1; length = p.length; end = p.end }

frames_stay : (pcs : List ℕ) (ps : List ListedPath) (i : ℕ) (p : ListedPath) → i < length ps → p ≡ get_or ps i p → frames_of_all (listed_paths pcs (set ps i (counted_more p))) ≡ frames_of_all (listed_paths pcs ps)
frames_stay pcs [] i p lt is = absurd (omega (arith, lt))
frames_stay pcs (q ∷ ps) zero p lt is =
    let old = sum_by-cons frames_of (listed_path pcs q) (listed_paths pcs ps) in
    let new = sum_by-cons frames_of (listed_path pcs (counted_more p)) (listed_paths pcs ps) in
    let same : frames_of (listed_path pcs (counted_more p)) ≡ frames_of (listed_path pcs q) = ap (λ (x : ListedPath). frames_of (listed_path pcs x)) is in
    omega (arith, old, new, same)
frames_stay pcs (q ∷ ps) (suc i) p lt is =
    let old = sum_by-cons frames_of (listed_path pcs q) (listed_paths pcs ps) in
    let new = sum_by-cons frames_of (listed_path pcs q) (listed_paths pcs (set ps i (counted_more p))) in
    let rest = frames_stay pcs ps i p (omega (arith, lt)) is in
    omega (arith, old, new, rest)

pub counted_listed : (pcs : List ℕ) (ps : List ListedPath) (frames i : ℕ) (p : ListedPath) → AreListed pcs ps frames → i < length ps → p ≡ get_or ps i p → AreListed pcs (set ps i (counted_more p)) frames
counted_listed pcs ps frames i p are lt is =
    let own : IsListed pcs p = subst (IsListed pcs) (sym is) (are.each i p lt) in
    record {
      each = All-set (IsListed pcs) ps i (counted_more p) (record { some = own.some; few = own.few; within = own.within }) are.each;
      sum = are.sum ∙ sym (frames_stay pcs ps i p lt is);
    }

-- each path has frames
pub some_frames : (pcs : List ℕ) (ps : List ListedPath) (now : List Counted) → listed_paths pcs ps ≡ now → All (IsListed pcs) ps → All (λ c. 0 < length c.path.frames) now
some_frames pcs ps now view all =
    subst (All (λ (c : Counted). 0 < length c.path.frames)) view (All-map (λ (c : Counted). 0 < length c.path.frames) (listed_path pcs) ps (All-weaker (IsListed pcs) (λ p. 0 < length (listed_path pcs p).path.frames) has ps all))
  where
    has : (p : ListedPath) → IsListed pcs p → 0 < length (listed_path pcs p).path.frames
    has p is =
        let within = is.within in
        let some = is.some in
        let rest = length-drop p.first pcs in
        let taken = length-take-le p.length (drop p.first pcs) (omega (arith, within, rest)) in
        let same = length-map (take p.length (drop p.first pcs)) frame_at in
        omega (arith, some, taken, same)
