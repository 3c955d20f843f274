mod ActsAlone
mod KeptFrames
