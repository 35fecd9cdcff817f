-- `keep` meets its contract: 7 for a buffer that is too short, else the image in front.
use native.Mathlib.Omega.{arith}
use Rattle.saving.specs.Saving.{save_stands, save_few, image_fits, save_7, save_copied}
use Rattle.saving.proofs.keep.Goals as goal

pub write-n-requires : goal.write-n-requires
write-n-requires c =
    (save_few c.newest.ensures, save_stands c.requires, omega arith)

pub returns-then-buffer-n : goal.returns-then-buffer-n
returns-then-buffer-n c =
    save_7 c.requires c.newest.ensures c.write-n.ensures c.args.buffer.now c.if-buffer-n.true

pub slice_bounds-image-end : goal.slice_bounds-image-end
slice_bounds-image-end c =
    image_fits c.requires c.newest.ensures c.write-n.ensures

pub returns : goal.returns
returns c =
    save_copied c.requires c.newest.ensures c.write-n.ensures c.args.buffer.now c.if-buffer-n.false c.copy_from_slice.ensures.after
