-- The twelve cases of document 01, computed.
-- Assumes nothing.
use mathlib.Core.Path.{refl}
use Rattle.le.specs.Number.{value, bytes, field, number, stored}
use Rattle.le.specs.Choice.{pick, every}
use Rattle.chunk.specs.Refusals.{check, and_then}
use Rattle.chunk.specs.Tables.{count, find}
use Rattle.chunk.specs.Walks.{past, placed, sized, step, step_at, follow, walk, own_size}
use Rattle.form.specs.Forms.{is_wide, form_of, ds64_good, ds64_at, no_ds64, wide_as, head_as, form_size, whole_form, whole_as, head_of, open_for32}
use Rattle.truesize.specs.Sizes.{entries_in, entries_of, entry_size, ones_size, true_size}
use Rattle.fmt.specs.Formats.{size_good, bits_good, samples_good, valid_good, record_good, extra_good, record_in, format_in}
use Rattle.listing.specs.Listings.{chunks_good, headers, listing}
use Rattle.wave.specs.Scans.{payload, whole_blocks, judged, scan, walk_from, walk32}
use Rattle.upgrade.specs.Upgrades.{patch, halves, has_fact, frames, third_for, fact_patch, target_name, patches, patched, reserved, upgraded}
use Rattle.upgrade.specs.Cases.{file, cells, scanned, walked, onto, fine, case, ones, cases, agree}

pub the-cases : agree cases
unfolding value bytes field number stored pick every check and_then count find past placed sized step step_at follow walk own_size is_wide form_of ds64_good ds64_at no_ds64 wide_as head_as form_size whole_form whole_as head_of open_for32 entries_in entries_of entry_size ones_size true_size size_good bits_good samples_good valid_good record_good extra_good record_in format_in chunks_good headers listing payload whole_blocks judged scan walk_from walk32 patch halves has_fact frames third_for fact_patch target_name patches patched reserved upgraded file cells scanned walked onto fine case ones cases agree
the-cases = (refl, (refl, (refl, (refl, (refl, (refl, (refl, (refl, (refl, (refl, (refl, (refl, (refl, tt)))))))))))))
