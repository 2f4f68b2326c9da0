-- Which refusals are those of the words.
use Rattle.std.proofs.Common.{◌≡◌, Bool, true, false, List, [], Option, Some, None, Result, Ok, Err, IfErr, OnOk, inl, inr, ◌⊎◌, refl, sym, subst}
use Rattle.std.specs.Prelude.{◌≢◌}
use Rattle.clap.specs.Words.{HasKind, IsAmong, Text, fault_of, kind_of, takes}
use Rattle.clap.specs.declared.error.Error.{Error}
use Rattle.clap.specs.declared.error.kind.ErrorKind.TheVariants.{OutOfMemory}
use Rattle.pr_options.specs.CommandLine.{print1525}
use Rattle.pr_options.specs.Jobs.{IsRefused, asked}
use Rattle.pr_options.specs.Steps.{IsOfClap, IsOwn}
use Rattle.pr_options.specs.declared.command_line.Task.{Task}
use Rattle.pr_options.specs.declared.command_line.JobFault.{JobFault}
use Rattle.pr_options.specs.declared.command_line.JobFault.TheVariants as fault

-- what holds whatever the job is
pub on_ok : {T E A : Type 0} (r : Result T E) → A → OnOk r A
on_ok (Ok x) h = h
on_ok (Err e) h = tt

-- words that clap takes are refused for the fault that is wanted
pub bad_is : (words : List Text) (r : Result Task JobFault) → IfErr r (λ f. (f ≡ fault.NoMemory) ⊎ (asked words ≡ Some (Err f))) → IfErr r IsOwn → fault_of print1525 words ≡ [] → IfErr r (IsRefused words)
bad_is words (Ok x) h own e = tt
bad_is words (Err f) h own e = by f h own
  where
    by : (f : JobFault) → (f ≡ fault.NoMemory) ⊎ (asked words ≡ Some (Err f)) → IsOwn f → IsRefused words f
    by (fault.Line x) h own = absurd own
    by fault.NoMemory h own = tt
    by fault.BadPresent (inl h) own = absurd (cc h)
    by fault.BadPresent (inr h) own = (e, h)
    by fault.BadDelays (inl h) own = absurd (cc h)
    by fault.BadDelays (inr h) own = (e, h)
    by fault.BadStatus (inl h) own = absurd (cc h)
    by fault.BadStatus (inr h) own = (e, h)
    by (fault.Bad o) (inl h) own = absurd (cc h)
    by (fault.Bad o) (inr h) own = (e, h)
    by fault.NoRecording (inl h) own = absurd (cc h)
    by fault.NoRecording (inr h) own = (e, h)
    by fault.NoTable (inl h) own = absurd (cc h)
    by fault.NoTable (inr h) own = (e, h)
    by fault.NoProgram (inl h) own = absurd (cc h)
    by fault.NoProgram (inr h) own = (e, h)
    by fault.NoPart (inl h) own = absurd (cc h)
    by fault.NoPart (inr h) own = (e, h)
    by fault.NoPicture (inl h) own = absurd (cc h)
    by fault.NoPicture (inr h) own = (e, h)
    by fault.NoReadings (inl h) own = absurd (cc h)
    by fault.NoReadings (inr h) own = (e, h)
    by fault.NoPaper (inl h) own = absurd (cc h)
    by fault.NoPaper (inr h) own = (e, h)
    by fault.NoStrips (inl h) own = absurd (cc h)
    by fault.NoStrips (inr h) own = (e, h)
    by fault.NoPages (inl h) own = absurd (cc h)
    by fault.NoPages (inr h) own = (e, h)
    by fault.NoListener (inl h) own = absurd (cc h)
    by fault.NoListener (inr h) own = (e, h)

not_true : (b : Bool) → ¬ (b ≡ true) → b ≡ false
not_true true h = absurd (h refl)
not_true false h = refl

-- clap's refusal is one for its reasons, and never for memory
pub refused_is : (words : List Text) (error : Error) (f : JobFault) → IsOfClap error f → (takes print1525 words ≡ true → kind_of error ≡ OutOfMemory)
    → HasKind (fault_of print1525 words) error → IsRefused words f
refused_is words error (fault.Line e) h passes kinds =
    let P : Error → Type 0 = λ x. (kind_of x ≢ OutOfMemory) × (IsAmong (kind_of x) (fault_of print1525 words) × (takes print1525 words ≡ false)) in
    let among : IsAmong (kind_of error) (fault_of print1525 words) = elim kinds [ inl q ↦ absurd (h.1 q) | inr a ↦ a ] in
    subst P (sym h.0) (h.1, (among, not_true (takes print1525 words) (λ t. h.1 (passes t))))
refused_is words error fault.NoMemory h passes kinds = tt
refused_is words error fault.BadPresent h passes kinds = absurd h
refused_is words error fault.BadDelays h passes kinds = absurd h
refused_is words error fault.BadStatus h passes kinds = absurd h
refused_is words error (fault.Bad o) h passes kinds = absurd h
refused_is words error fault.NoRecording h passes kinds = absurd h
refused_is words error fault.NoTable h passes kinds = absurd h
refused_is words error fault.NoProgram h passes kinds = absurd h
refused_is words error fault.NoPart h passes kinds = absurd h
refused_is words error fault.NoPicture h passes kinds = absurd h
refused_is words error fault.NoReadings h passes kinds = absurd h
refused_is words error fault.NoPaper h passes kinds = absurd h
refused_is words error fault.NoStrips h passes kinds = absurd h
refused_is words error fault.NoPages h passes kinds = absurd h
refused_is words error fault.NoListener h passes kinds = absurd h
