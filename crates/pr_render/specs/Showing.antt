-- Trusted: which formats show a part of the pages.
use Rattle.std.specs.Prelude.{ℕ, false, Option, Some, None}
use Rattle.pr_dots.specs.declared.scale.Scale.TheVariants as scale
use Rattle.pr_render.specs.declared.format.Device.{Device}
use Rattle.pr_render.specs.declared.format.Layout.{Layout}
use Rattle.pr_render.specs.declared.format.Part.{Part}
use Rattle.pr_render.specs.declared.format.Size.TheVariants.{Continuous}
use Rattle.pr_render.specs.declared.format.Format.{Format}
use Rattle.pr_render.specs.declared.format.Format.TheVariants.{List, Lines, Svg, Png, Pdf}

-- the paper as people put it in: the first row is 3 lines of 1/6 inch below its upper edge; pictures show continuous paper
-- without its holes
abbrev pub usual : Layout
usual = record { top = 3; size = Continuous; holes = false }

-- all of the pages; a bitmap has two pixels for the place of a dot
abbrev pub whole : Part
whole = record { device = None; sheet = None; layout = usual; scale = scale.Two }

-- a format if all of the pages have to be shown
abbrev pub if_whole : Format → Option Device → Option ℕ → Option Format
if_whole format None None = Some format
if_whole format None (Some sheet) = None
if_whole format (Some device) sheet = None

-- a PDF document of all printers or of one: it has no single sheet
abbrev pub pdf_showing : Option Device → Option ℕ → Layout → Option Format
pdf_showing device None layout = Some (Pdf device layout)
pdf_showing device (Some sheet) layout = None

-- a format that shows this part of the pages, if it can: the list and the lines show all pages, without their paper
abbrev pub showing : Format → Part → Option Format
showing List part = if_whole List part.device part.sheet
showing (Lines look) part = if_whole (Lines look) part.device part.sheet
showing (Svg old) part = Some (Svg part)
showing (Png old) part = Some (Png part)
showing (Pdf old paper) part = pdf_showing part.device part.sheet part.layout
