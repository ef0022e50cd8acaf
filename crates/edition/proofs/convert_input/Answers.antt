-- What is written is a part of the buffer. Assumes nothing.
use Rattle.std.proofs.Common.{refl, sym, [], length-take-le}
use Rattle.edition.proofs.convert_input.Goals as goal

pub slice_bounds-out-end : goal.slice_bounds-out-end
slice_bounds-out-end g c = (c.convert_file-done.ensures.whole [] (λ _. refl)).within _ c.in-Ok.is

pub slice_bounds-write_all-end : goal.slice_bounds-write_all-end
slice_bounds-write_all-end g c = sym (length-take-le _ _ ((c.convert_file-done.ensures.whole [] (λ _. refl)).within _ c.in-Ok.is))
