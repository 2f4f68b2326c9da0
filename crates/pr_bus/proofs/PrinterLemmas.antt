-- What a printer waits, by the numbers left.
use Rattle.std.proofs.Common.{◌≡◌, ℕ, ◌+◌, Bool, true, cond, List, [], ◌∷◌, map, drop, refl, sym, ap, ◌∙◌, arith}
use Rattle.pr_wire.specs.declared.delay.Kind.TheVariants.{H, Ye, Ei, F, Dr}
use Rattle.pr_wire.specs.Delays.{delay_at}
use Rattle.pr_wire.specs.Choices.{left}
use Rattle.pr_bus.specs.declared.printer.TimedPrinter.{TimedPrinter}
use Rattle.pr_bus.specs.Timed as all
use Rattle.pr_bus.specs.Timed.{ListenerTiming, taking, data_hearers, command_hearers}
use Rattle.pr_bus.specs.Printers.{printer_list, heeding}
use Rattle.pr_bus.proofs.FrameLemmas.{delay-drop, drop-twice}

-- a printer that listens hears a data byte with its next numbers
pub byte-hearers : (eoi : Bool) (p : TimedPrinter) (hold wait answer accept : ℕ) → p.present ≡ true → p.listens ≡ true
    → hold ≡ delay_at H (left p.choices) 0 → wait ≡ delay_at Ye (left p.choices) 1
    → answer ≡ cond eoi (delay_at Ei (left p.choices) 2) 0 → accept ≡ delay_at F (left p.choices) (cond eoi 3 2)
    → (◌≡◌ {A = List ListenerTiming} (record { hold = hold; wait = wait; answer = answer; accept = accept } ∷ []) (data_hearers eoi (heeding p)))
byte-hearers eoi p hold wait answer accept t l h w a c =
    rw (h, w, a, c) (sym (ap (λ v. data_hearers eoi (cond v (printer_list p) [])) l ∙ ap (λ v. data_hearers eoi (cond v (record { device = p.device; numbers = left p.choices } ∷ []) [])) t))

-- what is waited in a command by the numbers left after others were taken
pub commands-taking : (i n : ℕ) (ps : List all.TimedPrinter) → command_hearers i (map (taking n) ps) ≡ command_hearers (n + i) ps
commands-taking i n [] = refl
commands-taking i n (p ∷ ps) =
    ap (λ v. record { hold = v; wait = 0; answer = 0; accept = delay_at F (drop n p.numbers) (i + 1) } ∷ command_hearers i (map (taking n) ps)) (delay-drop H n p.numbers i)
    ∙ ap (λ v. record { hold = delay_at H p.numbers (n + i); wait = 0; answer = 0; accept = v } ∷ command_hearers i (map (taking n) ps)) (delay-drop F n p.numbers (i + 1) ∙ ap (λ m. delay_at F p.numbers m) (let e : n + (i + 1) ≡ n + i + 1 = omega arith in e))
    ∙ ap (λ v. record { hold = delay_at H p.numbers (n + i); wait = 0; answer = 0; accept = delay_at F p.numbers (n + i + 1) } ∷ v) (commands-taking i n ps)

-- the releases of DATA by the numbers left after others were taken
pub releases-taking : (n : ℕ) (ps : List all.TimedPrinter) → map (λ (p : all.TimedPrinter). delay_at Dr p.numbers 0) (map (taking n) ps) ≡ map (λ (p : all.TimedPrinter). delay_at Dr p.numbers n) ps
releases-taking n [] = refl
releases-taking n (p ∷ ps) =
    ap (λ v. v ∷ map (λ (p : all.TimedPrinter). delay_at Dr p.numbers 0) (map (taking n) ps)) (delay-drop Dr n p.numbers 0 ∙ ap (λ m. delay_at Dr p.numbers m) (let e : n + 0 ≡ n = omega arith in e))
    ∙ ap (λ v. delay_at Dr p.numbers n ∷ v) (releases-taking n ps)

-- numbers taken twice
pub taking-twice : (m n : ℕ) (ps : List all.TimedPrinter) → map (taking n) (map (taking m) ps) ≡ map (taking (m + n)) ps
taking-twice m n [] = refl
taking-twice m n (p ∷ ps) =
    ap (λ v. record p { numbers = v } ∷ map (taking n) (map (taking m) ps)) (drop-twice m n p.numbers)
    ∙ ap (λ v. taking (m + n) p ∷ v) (taking-twice m n ps)
