-- File tables with one file more, and with some left out.
use Rattle.std.proofs.Common.{◌≡◌, ◌≢◌, ℕ, ◌≤◌, ◌<◌, Bool, true, false, cond, ◌==◌, Option, Some, None, is_some, [], ◌∷◌, ◌++◌, length, find, filter, subst, refl, sym, ap, arith, ◌∙◌, length-append}
use Rattle.std.specs.Option.{ForSome, option_or}
use Rattle.std.proofs.lemmas.List.Folds.{find-append}
use Rattle.std.proofs.lemmas.Bool.{eq-eqb, eqb-true}
use Rattle.pr_channels.specs.declared.file.File.{File}
use Rattle.pr_channels.specs.declared.faults.Stop.TheVariants.{TooManyFiles, FileOpen, NotInputFile}
use Rattle.pr_channels.specs.Files.{Files, file_at, without_file, open_stop}
use Rattle.pr_channels.specs.Table.{IsFile, IsOnce, AreFiles, IsTable}

-- with one less or not, the rest of the files are no more than all
filter_cons : (p : File → Bool) (x : File) (xs : Files) (a : Bool) → p x ≡ a → length (filter p xs) ≤ length xs → length (filter p (x ∷ xs)) ≤ length (x ∷ xs)
filter_cons p x xs true na ih = simp na (omega (arith, ih))
filter_cons p x xs false na ih = simp na (omega (arith, ih))

-- some of the files are no more than all
length-filter : (p : File → Bool) (xs : Files) → length (filter p xs) ≤ length xs
length-filter p [] = omega arith
length-filter p (x ∷ xs) = filter_cons p x xs (p x) refl (length-filter p xs)

-- what is not among the files is not among some of them, with one more file
absent_cons : (p q : File → Bool) (x : File) (xs : Files) (a b : Bool) → p x ≡ a → q x ≡ b → find p (x ∷ xs) ≡ None → (find p xs ≡ None → find p (filter q xs) ≡ None) → find p (filter q (x ∷ xs)) ≡ None
absent_cons p q x xs true b na nb none ih =
    let clash : Some x ≡ None = ap (λ t. cond t (Some x) (find p xs)) (sym na) ∙ none in
    absurd (cc clash)
absent_cons p q x xs false true na nb none ih =
    let later = ap (λ t. cond t (Some x) (find p xs)) (sym na) ∙ none in
    simp (na, nb) (ih later)
absent_cons p q x xs false false na nb none ih =
    let later = ap (λ t. cond t (Some x) (find p xs)) (sym na) ∙ none in
    simp (na, nb) (ih later)

-- what is not among the files is not among some of them
absent_filter : (p q : File → Bool) (xs : Files) → find p xs ≡ None → find p (filter q xs) ≡ None
absent_filter p q [] none = refl
absent_filter p q (x ∷ xs) none = absent_cons p q x xs (p x) (q x) refl refl none (absent_filter p q xs)

-- some of the files are once, with one more
once_cons : (q : File → Bool) (x : File) (xs : Files) (a : Bool) → q x ≡ a → IsOnce (x ∷ xs) → IsOnce (filter q xs) → IsOnce (filter q (x ∷ xs))
once_cons q x xs true na once ih = simp na (absent_filter (λ file. file.number == x.number) q xs once.0, ih)
once_cons q x xs false na once ih = simp na ih

-- some of the files are once
once_filter : (q : File → Bool) (files : Files) → IsOnce files → IsOnce (filter q files)
once_filter q [] once = tt
once_filter q (x ∷ xs) once = once_cons q x xs (q x) refl once (once_filter q xs once.1)

-- some of the files are open files, with one more
each_cons : (q : File → Bool) (x : File) (xs : Files) (a : Bool) → q x ≡ a → AreFiles (x ∷ xs) → AreFiles (filter q xs) → AreFiles (filter q (x ∷ xs))
each_cons q x xs true na each ih = simp na (each.0, ih)
each_cons q x xs false na each ih = simp na ih

-- some of the files are open files
pub each_filter : (q : File → Bool) (files : Files) → AreFiles files → AreFiles (filter q files)
each_filter q [] each = tt
each_filter q (x ∷ xs) each = each_cons q x xs (q x) refl each (each_filter q xs each.1)

-- some of the files of a table are a table
pub table_filter : (q : File → Bool) (files : Files) → IsTable files → IsTable (filter q files)
table_filter q files is = record { once = once_filter q files is.once; few = omega (arith, length-filter q files, is.few) }

-- numbers that differ do so either way round
other_way : (a b : ℕ) (c : Bool) → (b == a) ≡ c → (a == b) ≡ false → c ≡ false
other_way a b true is differ = let clash : true ≡ false = sym (eq-eqb a b (sym (eqb-true b a is))) ∙ differ in absurd (cc clash)
other_way a b false is differ = refl

-- a number that is not among files differs from that of the first, and is not among the others
first_differs : (n : ℕ) (x : File) (xs : Files) (a : Bool) → (x.number == n) ≡ a → file_at (x ∷ xs) n ≡ None → a ≡ false × (file_at xs n ≡ None)
first_differs n x xs true na none = let clash : Some x ≡ None = ap (λ t. cond t (Some x) (file_at xs n)) (sym na) ∙ none in absurd (cc clash)
first_differs n x xs false na none = (refl, ap (λ t. cond t (Some x) (file_at xs n)) (sym na) ∙ none)

-- with a new number each number still is once
once_push : (file : File) (files : Files) → IsOnce files → file_at files file.number ≡ None → IsOnce (files ++ file ∷ [])
once_push file [] once none = (refl, tt)
once_push file (x ∷ xs) once none =
    let parts = first_differs file.number x xs (x.number == file.number) refl none in
    let differs : (file.number == x.number) ≡ false = other_way x.number file.number (file.number == x.number) refl parts.0 in
    let absent : file_at (xs ++ file ∷ []) x.number ≡ None =
    find-append (λ (f : File). f.number == x.number) xs (file ∷ []) ∙ simp (once.0, differs) in (
      absent,
      once_push file xs once.1 parts.1,
    )

-- one more open file
pub each_push : (file : File) (files : Files) → AreFiles files → IsFile file → AreFiles (files ++ file ∷ [])
each_push file [] each is = (is, tt)
each_push file (x ∷ xs) each is = (each.0, each_push file xs each.1 is)

-- what it means that nothing is against opening a file
record IsOpenable (files : Files) (n : ℕ) : Type 0 where
  named : (n == 0) ≡ false
  absent : file_at files n ≡ None
  room : (length files == 10) ≡ false

-- nothing is against it where no test finds anything
openable_at : (files : Files) (n : ℕ) (a : Bool) (f : Option File) (b : Bool) → (n == 0) ≡ a → file_at files n ≡ f → (length files == 10) ≡ b
    → cond a (Some NotInputFile) (cond (is_some f) (Some FileOpen) (cond b (Some TooManyFiles) None)) ≡ None → IsOpenable files n
openable_at files n true f b na nf nb none = let clash : Some NotInputFile ≡ None = none in absurd (cc clash)
openable_at files n false (Some f) b na nf nb none = let clash : Some FileOpen ≡ None = none in absurd (cc clash)
openable_at files n false None true na nf nb none = let clash : Some TooManyFiles ≡ None = none in absurd (cc clash)
openable_at files n false None false na nf nb none = record { named = na; absent = nf; room = nb }

-- at most ten and not ten
room_left : (n : ℕ) → n ≤ 10 → (n == 10) ≡ false → n < 10
room_left n few room =
    let other : n ≢ 10 = λ ten. let clash : true ≡ false = sym (eq-eqb n 10 ten) ∙ room in absurd (cc clash) in
    omega arith

-- a number that names nothing
pub named_none : (f : Option File) → false ≡ is_some f → f ≡ None
named_none None none = refl
named_none (Some file) none = absurd (cc none)

-- one more file with a new number makes a table of a table with room
pub table_push : (files : Files) (file : File) → IsTable files → file_at files file.number ≡ None → (length files == 10) ≡ false → IsTable (files ++ file ∷ [])
table_push files file is absent room = record {
  once = once_push file files is.once absent;
  few = omega (arith, length-append files (file ∷ []), room_left (length files) is.few room);
}

-- one more file against which nothing is makes a table of a table
pub table_opened : (files : Files) (file : File) → IsTable files → open_stop files file.number ≡ None → IsTable (files ++ file ∷ [])
table_opened files file is none =
    let may = openable_at files file.number (file.number == 0) (file_at files file.number) (length files == 10) refl refl refl none in
    table_push files file is may.absent may.room

-- a number below ten is not ten
below_ten : (n : ℕ) (b : Bool) → (n == 10) ≡ b → n < 10 → b ≡ false
below_ten n true is low = let ten : n ≡ 10 = eqb-true n 10 is in absurd (omega arith)
below_ten n false is low = refl

-- what may be opened beside a table may be opened beside some of it
pub openable_filter : (q : File → Bool) (files : Files) (n : ℕ) → IsTable files → open_stop files n ≡ None → open_stop (filter q files) n ≡ None
openable_filter q files n is none =
    let may = openable_at files n (n == 0) (file_at files n) (length files == 10) refl refl refl none in
    let absent : file_at (filter q files) n ≡ None = absent_filter (λ file. file.number == n) q files may.absent in
    let low : length files < 10 = room_left (length files) is.few may.room in
    let shorter : length (filter q files) < 10 = omega (arith, length-filter q files) in
    let room : (length (filter q files) == 10) ≡ false = below_ten (length (filter q files)) (length (filter q files) == 10) refl shorter in
    ap (λ t. cond t (Some NotInputFile) (cond (is_some (file_at (filter q files) n)) (Some FileOpen) (cond (length (filter q files) == 10) (Some TooManyFiles) None))) may.named
    ∙ ap (λ f. cond (is_some f) (Some FileOpen) (cond (length (filter q files) == 10) (Some TooManyFiles) None)) absent
    ∙ ap (λ t. cond t (Some TooManyFiles) None) room

-- nothing more is named
or_none : (f : Option File) → option_or f None ≡ f
or_none None = refl
or_none (Some x) = refl

-- what a number names with one new file, whether it is that file's or not
named_at_push : (files : Files) (file : File) (n : ℕ) (b : Bool) → (file.number == n) ≡ b → file_at files file.number ≡ None → option_or (file_at files n) (cond b (Some file) None) ≡ cond b (Some file) (file_at files n)
named_at_push files file n true is none = ap (λ f. option_or f (Some file)) (ap (file_at files) (sym (eqb-true file.number n is)) ∙ none)
named_at_push files file n false is none = or_none (file_at files n)

-- what a number names with one new file
pub named-push : (files : Files) (file : File) (n : ℕ) → file_at files file.number ≡ None → file_at (files ++ file ∷ []) n ≡ cond (file.number == n) (Some file) (file_at files n)
named-push files file n none =
    find-append (λ (f : File). f.number == n) files (file ∷ []) ∙ named_at_push files file n (file.number == n) refl none

-- what a number names without another, with one more file that is left out or not, and named or not
named_cons : (number n : ℕ) (x : File) (xs : Files) (a b d : Bool) → (x.number == number) ≡ a → (x.number == n) ≡ b → (number == n) ≡ d
    → file_at (without_file number xs) n ≡ cond d None (file_at xs n) → file_at (without_file number (x ∷ xs)) n ≡ cond d None (file_at (x ∷ xs) n)
named_cons number n x xs true true true na nb nd ih = simp na ih
named_cons number n x xs true false true na nb nd ih = simp na ih
named_cons number n x xs true true false na nb nd ih =
    let clash : true ≡ false = sym nb ∙ ap (λ k. k == n) (eqb-true x.number number na) ∙ nd in
    absurd (cc clash)
named_cons number n x xs true false false na nb nd ih = simp (na, nb) ih
named_cons number n x xs false true true na nb nd ih =
    let clash : false ≡ true = sym na ∙ ap (λ k. x.number == k) (eqb-true number n nd) ∙ nb in
    absurd (cc clash)
named_cons number n x xs false true false na nb nd ih = simp (na, nb)
named_cons number n x xs false false true na nb nd ih = simp (na, nb) ih
named_cons number n x xs false false false na nb nd ih = simp (na, nb) ih

-- nothing is named among no files, whatever the test
none_either : (b : Bool) → file_at [] 0 ≡ cond b None (file_at [] 0)
none_either true = refl
none_either false = refl

-- what a number names without another
pub named-without : (number n : ℕ) (files : Files) → file_at (without_file number files) n ≡ cond (number == n) None (file_at files n)
named-without number n [] = none_either (number == n)
named-without number n (x ∷ xs) = named_cons number n x xs (x.number == number) (x.number == n) (number == n) refl refl refl (named-without number n xs)

-- what a number names is an open file, with one more that it names or not
named_is_file_cons : (n : ℕ) (y : File) (ys : Files) (a : Bool) → (y.number == n) ≡ a → AreFiles (y ∷ ys) → (AreFiles ys → ForSome (file_at ys n) IsFile) → ForSome (file_at (y ∷ ys) n) IsFile
named_is_file_cons n y ys true na each ih = λ x is.
    let same : Some y ≡ Some x = ap (λ t. cond t (Some y) (file_at ys n)) (sym na) ∙ is in
    let one : y ≡ x = cc same in
    subst IsFile one each.0
named_is_file_cons n y ys false na each ih = λ x is. ih each.1 x (ap (λ t. cond t (Some y) (file_at ys n)) (sym na) ∙ is)

-- what a number names in a table is an open file
pub named_is_file : (files : Files) (n : ℕ) → AreFiles files → ForSome (file_at files n) IsFile
named_is_file [] n each = λ x is. let clash : file_at [] n ≡ Some x = is in absurd (cc clash)
named_is_file (y ∷ ys) n each = named_is_file_cons n y ys (y.number == n) refl each (named_is_file ys n)
