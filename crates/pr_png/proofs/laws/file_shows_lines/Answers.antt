use Rattle.std.proofs.Common.{◌+◌, refl}
use Rattle.pr_png.specs.Pixels.{bytes_of, pixel_lines}
use Rattle.pr_png.specs.Png.{image, picture_of}
use Rattle.pr_png.proofs.Inflating.{inflates}
use Rattle.pr_png.proofs.Small.{lines-small}
use Rattle.pr_png.proofs.laws.file_shows_lines.Goals as goal

pub returns : goal.returns
unfolding picture_of image
returns c shapes paper look line count = record {
  image = image shapes paper look line count;
  whole = refl;
  holds = inflates (1 + bytes_of look) (pixel_lines shapes paper look line count) (lines-small shapes paper look line count);
}
