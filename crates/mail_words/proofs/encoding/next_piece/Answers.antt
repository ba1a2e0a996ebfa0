use Rattle.mail_words.proofs.PieceLemmas.{piece_cut}
use Rattle.mail_words.proofs.encoding.next_piece.Goals as goal

pub returns : goal.returns
returns c =
    piece_cut c.args.text.now _ _ c.floor_char_boundary.result c.utf8.text c.requires c.floor_char_boundary.ensures.bound c.floor_char_boundary.ensures.boundary
    c.floor_char_boundary.ensures.nearest c.split_at.ensures.front c.split_at.ensures.back
