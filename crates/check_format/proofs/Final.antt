-- Reading answers Ok exactly on the images of valid meshes, with what is stored of them.
use Rattle.mesh_model.specs.Images.Laws.{ImagesAreRead, ReadIsImage, OneSpelling}
use Rattle.check_format.proofs.Sizes.{body_size}
use Rattle.check_format.proofs.Whole.{read_takes, read_image, one_mesh}

pub images_are_read : ImagesAreRead
images_are_read m turn valid names small =
    let size = body_size m turn valid names in
    read_image m turn valid names small size.0 size.1

pub read_is_image : ReadIsImage
read_is_image bytes s isb e =
    let t = read_takes bytes s isb e in
    record { valid = t.valid; names = t.names; small = t.small; spelled = t.spelled }

pub one_spelling : OneSpelling
one_spelling m turn valid = one_mesh m turn valid
