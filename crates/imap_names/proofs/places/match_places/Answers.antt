use Rattle.imap_names.proofs.PlaceLaws.{all_masks}
use Rattle.imap_names.proofs.places.match_places.Goals as goal

pub reaches_by_words-requires-clause-masks : goal.reaches_by_words-requires-clause-masks
reaches_by_words-requires-clause-masks c =
    all_masks c.args.text.now c.masks_from-2.result c.masks_from-3.result c.masks_from-4.result c.masks_from-5.result c.masks_from-6.result c.masks_from-7.result
    c.masks_from-2.ensures c.masks_from-3.ensures c.masks_from-4.ensures c.masks_from-5.ensures c.masks_from-6.ensures c.masks_from-7.ensures
