-- The examples of listings, by computation.
-- Assumes nothing.
use mathlib.Core.Path.{refl}
use lib.Count.{ones}
use Rattle.forms.specs.Form.{form_of, code_of, length_of, value_width}
use Rattle.decoder.specs.Decode.{head_of}
use Rattle.text.specs.Text.{digit_of}
use Rattle.names.specs.Names.{place_of, name_of}
use Rattle.lines.specs.Line.{operands_of, said_of, line_of}
use Rattle.listing.specs.Listing.{lines_of}
use Rattle.distinct.specs.Listings.{WholeListing, BytesListed}

pub whole-listing : WholeListing
unfolding digit_of place_of name_of operands_of said_of line_of lines_of head_of length_of form_of code_of value_width ones
whole-listing = refl

pub bytes-listed : BytesListed
unfolding digit_of place_of name_of operands_of said_of line_of lines_of head_of length_of form_of code_of value_width ones
bytes-listed = refl
