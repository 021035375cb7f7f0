-- `cuts::cut`: the four parts one after another.
-- Assumes nothing.
use mathlib.Core.Path.{ap, ◌∙◌}
use Rattle.tables.specs.Flat.{flat}
use Rattle.cuts.specs.Code.Cutting.{seen_sessions, seen_done, seen_words}
use Rattle.cuts.proofs.PassLaws.{fits-sessions, fits-done, fits-words}
use Rattle.cuts.proofs.TurnLaws.{counted, cut-is}
use Rattle.cuts.proofs.cut.Goals as goal

pub sessions-requires : goal.sessions-requires
sessions-requires c = counted c.requires.fits c.requires.words

pub done-requires : goal.done-requires
done-requires c =
    counted (fits-sessions c.args.reader c.requires.fits) (c.sessions.ensures c.requires.tables c.requires.fits c.requires.words)

pub collection-requires : goal.collection-requires
collection-requires c =
    let one = fits-sessions c.args.reader c.requires.fits in
    let first = c.sessions.ensures c.requires.tables c.requires.fits c.requires.words in
    counted (fits-done c.args.reader one) (c.done.ensures (seen_sessions c.args.reader c.requires.tables) one first)

pub users-requires : goal.users-requires
users-requires c =
    let one = fits-sessions c.args.reader c.requires.fits in
    let two = fits-done c.args.reader one in
    let first = c.sessions.ensures c.requires.tables c.requires.fits c.requires.words in
    let second = c.done.ensures (seen_sessions c.args.reader c.requires.tables) one first in
    counted (fits-words c.args.reader two) (c.collection.ensures (seen_done c.args.reader (seen_sessions c.args.reader c.requires.tables)) two second)

pub returns : goal.returns
returns c =
    λ T F e.
    let one = fits-sessions c.args.reader F in
    let two = fits-done c.args.reader one in
    let first = c.sessions.ensures T F e in
    let second = c.done.ensures (seen_sessions c.args.reader T) one first in
    let third = c.collection.ensures (seen_done c.args.reader (seen_sessions c.args.reader T)) two second in
    c.users.ensures (seen_words c.args.reader (seen_done c.args.reader (seen_sessions c.args.reader T))) (fits-words c.args.reader two) third ∙ ap flat (cut-is c.args.reader T)
