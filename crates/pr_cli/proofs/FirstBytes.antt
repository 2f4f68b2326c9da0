-- The first bytes of an input, and all of it.
use Rattle.std.proofs.Common.{◌≡◌, ◌≤◌, ◌-◌, refl, ℕ, List, ◌++◌, length, take, ap, subst, sym, ◌∙◌, arith, Option, Some, None, IfSome, append-nil, inl}
use Rattle.std.specs.Prelude.{Result, Ok, Vec}
use Rattle.std.specs.Global.{Global}
use Rattle.std.proofs.lemmas.List.{take_all, take-append-le}
use Rattle.std.specs.Io.KnownBytes.{Consumes, IsAtEnd}
use Rattle.std.specs.Fmt.{option_append}
use Rattle.pr_options.specs.declared.command_line.Job.{Job}
use Rattle.pr_cli.specs.Jobs.{EndsWhole, IsReadWhole, first_bytes, found_job, restarted_job, started_job, zero_of_job}
use Rattle.pr_cli.specs.declared.statuses.End.{End}

-- at the end of the input the bytes so far are its first bytes
pub all_first : (limit : ℕ) (a b c : Option (List ℕ)) (first f : List ℕ) (n : ℕ) → n ≡ 0 → Consumes a b first → Consumes b c (take n f) → IsAtEnd c
    → length first ≤ limit → IfSome a (λ s. first ≡ take limit s)
all_first limit None b c first f n z h k e within = tt
all_first limit (Some xs) None c first f n z h k e within = absurd h
all_first limit (Some xs) (Some ys) None first f n z h k e within = absurd k
all_first limit (Some xs) (Some ys) (Some zs) first f n z h k e within =
    let none : ys ≡ take 0 f ++ zs = rw z at k in
    let whole : xs ≡ first = h ∙ ap (λ l. first ++ l) (none ∙ e) ∙ append-nil first in
    sym (ap (λ l. take limit l) whole ∙ take_all limit first within)

-- as many as are wanted are the first bytes
pub enough_first : (limit : ℕ) (a b : Option (List ℕ)) (first : List ℕ) → Consumes a b first → limit ≡ length first → IfSome a (λ s. first ≡ take limit s)
enough_first limit None b first h e = tt
enough_first limit (Some xs) None first h e = absurd h
enough_first limit (Some xs) (Some ys) first h e =
    sym (ap (λ l. take limit l) h ∙ take-append-le limit first ys (omega (arith, e)) ∙ take_all limit first (omega (arith, e)))

-- what holds of the first bytes and the rest holds of all
pub of_whole : (a b whole : Option (List ℕ)) (first : List ℕ) (P Q R : List ℕ → Type 0) → Consumes a b first → whole ≡ option_append (Some first) b
    → IfSome a P → IfSome whole Q → ((xs : List ℕ) → P xs → Q xs → R xs) → IfSome a R
of_whole None b whole first P Q R h e p q both = tt
of_whole (Some xs) None whole first P Q R h e p q both = absurd h
of_whole (Some xs) (Some ys) whole first P Q R h e p q both =
    let known : IfSome (Some (first ++ ys)) Q = rw e at q in
    both xs p (rw h known)

-- a job that starts so long before its recording's own moment 0
pub starts_before : (a : Option (List ℕ)) (first : List ℕ) (moment start before : ℕ) (job started : Job) → IfSome a (λ left. moment ≡ zero_of_job job (first ++ left)) → start ≡ moment - before
    → started ≡ restarted_job start job → IfSome a (λ left. started ≡ started_job (Some before) (first ++ left) job)
starts_before None first moment start before job started known less is = tt
starts_before (Some left) first moment start before job started known less is = is ∙ ap (λ s. restarted_job s job) (less ∙ ap (λ z. z - before) known)

-- or where it says
pub starts_there : (a : Option (List ℕ)) (first : List ℕ) (before : Option ℕ) (job : Job) → before ≡ None → IfSome a (λ left. job ≡ started_job before (first ++ left) job)
starts_there None first before job none = tt
starts_there (Some left) first before job none = rw none refl

-- a job whose format was found in the first bytes, and that starts by all
pub work_found : (a b : Option (List ℕ)) (first : List ℕ) (before : Option ℕ) (job found started : Job) → Consumes a b first → IfSome a (λ bytes. first ≡ take first_bytes bytes)
    → found ≡ found_job first job → IfSome b (λ left. started ≡ started_job before (first ++ left) found)
    → IfSome a (λ bytes. started ≡ started_job before bytes (found_job (take first_bytes bytes) job))
work_found None b first before job found started taken front is starts = tt
work_found (Some xs) None first before job found started taken front is starts = absurd taken
work_found (Some xs) (Some ys) first before job found started taken front is starts =
    starts ∙ (ap (λ l. started_job before l found) (sym taken) ∙ ap (started_job before xs) (is ∙ ap (λ f. found_job f job) front))

-- a job ends by all bytes that were read
pub read_whole : (a : Option (List ℕ)) (r : Result (Vec ℕ Global) End) (read : Vec ℕ Global) (whole : List ℕ)
    (Ends : List ℕ → Type 0) (old new : Option (List ℕ)) (end : End) → IfSome a (λ bytes. IsReadWhole bytes r)
    → r ≡ Ok read → whole ≡ read.items → Ends whole → IfSome a (λ bytes. EndsWhole Ends bytes old new end)
read_whole None r read whole Ends old new end h is same ends = tt
read_whole (Some bytes) r read whole Ends old new end h is same ends =
    let k : IsReadWhole bytes (Ok read) = subst (IsReadWhole bytes) is h in
    inl (k.1, subst Ends (same ∙ k.0) ends)
