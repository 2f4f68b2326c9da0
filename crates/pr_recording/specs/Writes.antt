-- Linking words, for proofs: what is written of what printers print, and of what one of them hears. No reader needs to
-- believe them.
use Rattle.std.specs.Prelude.{◌≡◌, ℕ, List, Option, Some, None, Result, Ok, Err}
use Rattle.std.specs.Io.KnownBytes.{Appends, Keeps}
use Rattle.pr_dots.specs.declared.character_sets.Shapes.{Shapes}
use Rattle.pr_render.specs.declared.format.Format.{Format}
use Rattle.pr_jobs.specs.Formats.{text_in}
use Rattle.pr_input.specs.PartlyWritten.{AppendsFront}
use Rattle.pr_jobs.specs.declared.fault.CliFault.{CliFault}
use Rattle.pr_jobs.specs.declared.fault.CliFault.TheVariants.{Picture, NoMemory, WriteFailed}
use Rattle.pr_jobs.specs.declared.fault.PictureFault.{PictureFault}
use Rattle.pr_recording.specs.declared.byte_log.HeardBytes.{HeardBytes}
use Rattle.pr_recording.specs.declared.bytes.Overheard.{Overheard}
use Rattle.pr_recording.specs.declared.left_out.LeftOut.{LeftOut}
use Rattle.pr_recording.specs.declared.pages.Reprinted.{Reprinted}
use Rattle.pr_recording.specs.declared.printer_pair.PrintedPages.{PrintedPages}
use Rattle.pr_recording.specs.declared.tape.TapeEnd.{TapeEnd}
use Rattle.pr_recording.specs.Bytes.{overheard_of}
use Rattle.pr_recording.specs.Pages.{papers_alone, said_of}

-- what pages come to in the writer
abbrev pub text_of_pages : Shapes → Format → PrintedPages → Result (List ℕ) PictureFault
text_of_pages shapes format p = text_in shapes format p.present (papers_alone p)

abbrev pub WritesPrint :
    Shapes → Format → PrintedPages → LeftOut → TapeEnd → Option (List ℕ) → Option (List ℕ) → Result Reprinted CliFault
    → Type 0
WritesPrint shapes format p left end old new (Ok said) =
    (text : List ℕ) × (text_of_pages shapes format p ≡ Ok text) × (end.stop ≡ None)
    × (said ≡ said_of p end.odd left) × Appends old new text
WritesPrint shapes format p left end old new (Err NoMemory) = Keeps old new
WritesPrint shapes format p left end old new (Err (Picture fault)) =
    (text_of_pages shapes format p ≡ Err fault) × Keeps old new
WritesPrint shapes format p left end old new (Err WriteFailed) =
    (text : List ℕ) × (text_of_pages shapes format p ≡ Ok text) × AppendsFront old new text
WritesPrint shapes format p left end old new (Err fault) =
    (text : List ℕ) × (text_of_pages shapes format p ≡ Ok text) × (end.stop ≡ Some fault) × Appends old new text

-- the bytes that were heard
abbrev pub WritesHeard :
    HeardBytes → LeftOut → TapeEnd → Option (List ℕ) → Option (List ℕ) → Result Overheard CliFault → Type 0
WritesHeard h left end old new (Ok said) =
    (end.stop ≡ None) × (said ≡ overheard_of h.bytes.items h.heard end.odd left) × Appends old new h.bytes.items
WritesHeard h left end old new (Err WriteFailed) = AppendsFront old new h.bytes.items
WritesHeard h left end old new (Err fault) = (end.stop ≡ Some fault) × Appends old new h.bytes.items
