-- One reading more of what pages leave out.
use Rattle.std.proofs.Common.{◌≡◌, ℕ, ◌+◌, Bool, true, false, not, ◌||◌, ◌&&◌, List, [], ◌∷◌, ◌++◌, refl, ap, sym, ◌∙◌, append-nil, arith, Option, Some, None}
use Rattle.std.specs.Prelude.{if◌then◌else◌}
use Rattle.std.proofs.Math.Bool.{cond}
use Rattle.std.proofs.lemmas.List.Folds.{list_any-append}
use Rattle.std.proofs.lemmas.List.Sums.{sum_by-append, take_while-cons}
use Rattle.std.specs.List.{before_first, count_by, list_any}
use Rattle.std.specs.Option.{option_map_or, option_to_list}
use Rattle.pr_wire.specs.declared.Frame.{Frame}
use Rattle.pr_decode.specs.declared.reading.Reading.{Reading}
use Rattle.pr_decode.specs.Frames.{acknowledged_frame, acknowledged_frames}
use Rattle.pr_report.specs.Summary.{is_incomplete, is_unacknowledged}
use Rattle.pr_recording.specs.declared.left_out.LeftOutLog.{LeftOutLog}
use Rattle.pr_recording.specs.Adds.{Adds}
use Rattle.pr_recording.specs.LeftLogged.{HasLeftOut, counted, left_with}
use Rattle.pr_recording.specs.LeftOut.{early_bytes, is_call, is_cut_byte, is_data}
use Rattle.pr_recording.proofs.Adding.{one-frame}

-- a count of one element, before others or after them
count_one : {X : Type 0} (p : X → Bool) (x : X) → count_by p (x ∷ []) ≡ (if p x then 1 else 0)
count_one p x = by (p x) refl
  where
    by : (b : Bool) → p x ≡ b → count_by p (x ∷ []) ≡ (if b then 1 else 0)
    by true e = rw e refl
    by false e = rw e refl

count_front : {X : Type 0} (p : X → Bool) (x : X) (xs : List X) → count_by p (x ∷ xs) ≡ counted (p x) (count_by p xs)
count_front p x xs = sum_by-append (λ y. cond (p y) 1 0) (x ∷ []) xs ∙ (ap (λ n. n + count_by p xs) (count_one p x) ∙ turned (p x) (count_by p xs))
  where
    turned : (b : Bool) (n : ℕ) → (if b then 1 else 0) + n ≡ counted b n
    turned true n = omega arith
    turned false n = omega arith

count_more : {X : Type 0} (p : X → Bool) (xs : List X) (x : X) → count_by p (xs ++ x ∷ []) ≡ counted (p x) (count_by p xs)
count_more p xs x = sum_by-append (λ y. cond (p y) 1 0) xs (x ∷ []) ∙ ap (λ n. count_by p xs + n) (count_one p x)

-- whether one of them passes, with one more
any_more : {X : Type 0} (p : X → Bool) (xs : List X) (x : X) → list_any p (xs ++ x ∷ []) ≡ (list_any p xs || p x)
any_more p xs x = list_any-append p xs (x ∷ []) ∙ ap (λ b. list_any p xs || b) (or_false (p x))
  where
    or_false : (b : Bool) → (b || false) ≡ b
    or_false true = refl
    or_false false = refl

-- a call is no data byte
no_data : (f : Frame) → is_call f ≡ true → is_data f ≡ false
no_data f call = by f.attention refl
  where
    by : (a : Bool) → f.attention ≡ a → is_data f ≡ false
    by true e = rw e refl
    by false e = absurd (grind (arith, e, call))

-- a frame goes before others
front : (f : Frame) (fs : List Frame) → early_bytes (f ∷ fs) ≡ (if is_call f then 0 else counted (is_data f) (early_bytes fs))
front f fs = ap (count_by is_data) (take_while-cons (λ x. not (is_call x)) f fs) ∙ by (is_call f) refl
  where
    by : (c : Bool) → is_call f ≡ c → count_by is_data (cond (not (is_call f)) (f ∷ before_first is_call fs) []) ≡ (if c then 0 else counted (is_data f) (early_bytes fs))
    by true e = rw e refl
    by false e = rw e (count_front is_data f (before_first is_call fs))

-- data bytes before the first call, with one frame more
early_more : (fs : List Frame) (f : Frame) → early_bytes (fs ++ f ∷ []) ≡ counted (is_data f && not (list_any is_call fs)) (early_bytes fs)
early_more [] f = front f [] ∙ by (is_call f) refl
  where
    by : (c : Bool) → is_call f ≡ c → (if c then 0 else counted (is_data f) 0) ≡ counted (is_data f && true) 0
    by true e = rw (no_data f e) refl
    by false e = both (is_data f)
      where
        both : (d : Bool) → counted d 0 ≡ counted (d && true) 0
        both true = refl
        both false = refl
early_more (g ∷ fs) f = front g (fs ++ f ∷ []) ∙ (by (is_call g) refl (early_more fs f) ∙ ap (counted (is_data f && not (list_any is_call (g ∷ fs)))) (sym (front g fs)))
  where
    by : (c : Bool) → is_call g ≡ c → early_bytes (fs ++ f ∷ []) ≡ counted (is_data f && not (list_any is_call fs)) (early_bytes fs)
        → (if c then 0 else counted (is_data g) (early_bytes (fs ++ f ∷ [])))
        ≡ counted (is_data f && not (list_any is_call (g ∷ fs))) (if c then 0 else counted (is_data g) (early_bytes fs))
    by true e h = rw e (none (is_data f))
      where
        none : (d : Bool) → 0 ≡ counted (d && false) 0
        none true = refl
        none false = refl
    by false e h = rw (e, h) (turned (is_data f && not (list_any is_call fs)) (is_data g))
      where
        turned : (a b : Bool) → counted b (counted a (early_bytes fs)) ≡ counted a (counted b (early_bytes fs))
        turned true true = omega arith
        turned true false = omega arith
        turned false true = omega arith
        turned false false = omega arith

-- the same with a frame more, if there is one
early_by : (fs : List Frame) (o : Option Frame) → early_bytes (fs ++ option_to_list o) ≡ counted (option_map_or is_data o false && not (list_any is_call fs)) (early_bytes fs)
early_by fs None = ap early_bytes (append-nil fs) ∙ omega arith
early_by fs (Some f) = early_more fs f

called_by : (fs : List Frame) (o : Option Frame) → list_any is_call (fs ++ option_to_list o) ≡ (list_any is_call fs || option_map_or is_call o false)
called_by fs None = ap (list_any is_call) (append-nil fs) ∙ sym (or_false (list_any is_call fs))
  where
    or_false : (b : Bool) → (b || false) ≡ b
    or_false true = refl
    or_false false = refl
called_by fs (Some f) = any_more is_call fs f

-- what is left out, with one reading more
pub one_left : (old new : LeftOutLog) (r : Reading) → new.left ≡ left_with old.left r (option_map_or is_data (acknowledged_frame r) false && not old.is_called)
    → new.is_called ≡ (old.is_called || option_map_or is_call (acknowledged_frame r) false) → Adds HasLeftOut (r ∷ []) old new
one_left old new r left called = λ readings h.
    let frames = acknowledged_frames readings in
    let more : acknowledged_frames (readings ++ r ∷ []) ≡ frames ++ option_to_list (acknowledged_frame r) = one-frame readings r (acknowledged_frame r) refl in
    record {
      left = left ∙ rw (
        h.left,
        h.called,
        more,
        count_more is_unacknowledged readings r,
        count_more is_incomplete readings r,
        any_more is_cut_byte readings r,
        early_by frames (acknowledged_frame r),
      ) refl;
      called = called ∙ rw (h.called, more) (sym (called_by frames (acknowledged_frame r)));
    }
